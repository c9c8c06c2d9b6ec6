use Rattle.std.proofs.Common.{◌≡◌, List, take}
use Rattle.sack_history.specs.declared.entry.Counted.{Counted}
use Rattle.front_api.specs.Seen.{SackBook, capped}
use Rattle.front.specs.Counting.{AreCountedIn, waiting_posts}
use Rattle.front.specs.SoloView.{AreSackBooks}
use Rattle.front.proofs.counts.waiting_in.Given as goal

abbrev pub invariant-loop-sack : goal.invariant-loop-sack
invariant-loop-sack g l = (books : List SackBook) (lists : List (List Counted)) → AreSackBooks g.D.Disk 0 l.sacks books → AreCountedIn books lists → l.total ≡ capped (waiting_posts (take l.sack-index lists))

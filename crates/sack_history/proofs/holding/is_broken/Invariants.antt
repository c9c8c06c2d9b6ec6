use Rattle.std.proofs.Common.{◌≡◌, false, take}
use Rattle.std.specs.List.{fold}
use Rattle.sack_history.specs.Holding.{broken_after}
use Rattle.sack_history.proofs.holding.is_broken.Given as goal

abbrev pub invariant-loop-entry : goal.invariant-loop-entry
invariant-loop-entry l = l.broken ≡ fold broken_after false (take l.entry-index l.entries)

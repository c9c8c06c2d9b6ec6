use Rattle.std.proofs.Common.{◌≡◌, [], take}
use Rattle.std.specs.List.{fold}
use Rattle.sack_history.specs.Lives.{ids_after}
use Rattle.sack_history.proofs.plain.live_ids.Given as goal

abbrev pub invariant-loop-c : goal.invariant-loop-c
invariant-loop-c l = l.ids.items ≡ fold ids_after [] (take l.c-index l.counts)

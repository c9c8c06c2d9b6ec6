use Rattle.std.proofs.Common.{◌≡◌, None, take}
use Rattle.std.specs.List.{fold}
use Rattle.sack_history.specs.Holding.{held_after}
use Rattle.sack_history.proofs.holding.held_claim.Given as goal

abbrev pub invariant-loop-entry : goal.invariant-loop-entry
invariant-loop-entry l = l.held ≡ fold held_after None (take l.entry-index l.entries)

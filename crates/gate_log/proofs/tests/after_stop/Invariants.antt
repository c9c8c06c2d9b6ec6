use Rattle.std.proofs.Common.{◌≡◌, false}
use Rattle.gate_log.proofs.tests.after_stop.Given as goal

abbrev pub invariant-loop-index : goal.invariant-loop-index
invariant-loop-index l = (l.left.broken ≡ false) × (l.left.count ≡ l.index-end)

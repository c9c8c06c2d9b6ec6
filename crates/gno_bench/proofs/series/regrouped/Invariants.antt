use Rattle.std.proofs.Common.{◌≤◌}
use Rattle.gno_bench.proofs.series.regrouped.Given as goal

abbrev pub invariant-loop-point : goal.invariant-loop-point
invariant-loop-point l = l.outcome.count ≤ l.point-index

use Rattle.std.proofs.Common.{◌≤◌}
use Rattle.gno_bench.proofs.series.sum_up.Given as goal

abbrev pub invariant-loop-kind : goal.invariant-loop-kind
invariant-loop-kind l = l.outcome.count ≤ l.kind-index

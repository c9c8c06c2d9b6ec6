use Rattle.std.proofs.Common.{◌≤◌}
use Rattle.gno_bench.proofs.policies.choose_all.Given as goal

abbrev pub invariant-loop-name : goal.invariant-loop-name
invariant-loop-name l = l.outcome.count ≤ l.name-index

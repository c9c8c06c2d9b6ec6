use Rattle.std.proofs.Common.{◌≡◌}
use Rattle.gno_bench.proofs.policies.make_all.Given as goal

abbrev pub invariant-loop-i : goal.invariant-loop-i
invariant-loop-i l = l.outcome.count ≡ l.i

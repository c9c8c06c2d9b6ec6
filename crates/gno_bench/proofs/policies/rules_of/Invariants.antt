use Rattle.std.proofs.Common.{◌≡◌, length}
use Rattle.gno_bench.proofs.policies.rules_of.Given as goal

abbrev pub invariant-loop-i : goal.invariant-loop-i
invariant-loop-i l = length l.rules.items ≡ l.i

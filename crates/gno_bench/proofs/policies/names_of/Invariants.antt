use Rattle.std.proofs.Common.{◌≡◌, length}
use Rattle.gno_bench.proofs.policies.names_of.Given as goal

abbrev pub invariant-loop : goal.invariant-loop
invariant-loop l = length l.names.items ≡ l.counter

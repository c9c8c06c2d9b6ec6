use Rattle.std.proofs.Common.{◌≡◌, length}
use Rattle.gno_bench.proofs.records.bodies_of.Given as goal

abbrev pub invariant-loop : goal.invariant-loop
invariant-loop l = length l.bodies.items ≡ l.counter

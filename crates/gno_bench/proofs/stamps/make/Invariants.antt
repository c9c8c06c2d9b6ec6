use Rattle.std.proofs.Common.{◌≡◌, length}
use Rattle.gno_bench.proofs.stamps.make.Given as goal

abbrev pub invariant-loop : goal.invariant-loop
invariant-loop l = length l.stamps.items ≡ l.counter

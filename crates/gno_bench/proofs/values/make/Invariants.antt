use Rattle.std.proofs.Common.{◌≡◌, length}
use Rattle.gno_bench.proofs.values.make.Given as goal

abbrev pub invariant-loop-i : goal.invariant-loop-i
invariant-loop-i l = length l.values.items ≡ l.i

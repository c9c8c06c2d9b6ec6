use Rattle.std.proofs.Common.{Ok}
use Rattle.gno_bench.proofs.timing.timed.Given as goal

abbrev pub invariant-loop : goal.invariant-loop
invariant-loop g l = goal.F-post g l.work (Ok l.value)

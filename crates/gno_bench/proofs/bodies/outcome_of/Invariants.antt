use Rattle.std.proofs.Common.{◌≡◌, take}
use Rattle.gno_bench.specs.Outcome.{told_by}
use Rattle.gno_bench.specs.Told.{measure_told}
use Rattle.gno_bench.proofs.bodies.outcome_of.Given as goal

abbrev pub invariant-loop-m : goal.invariant-loop-m
invariant-loop-m l = l.outcome ≡ told_by measure_told (take l.m-index l.measures)

use Rattle.std.proofs.Common.{◌≡◌, take}
use Rattle.gno_bench.specs.Outcome.{texts_of, told_by}
use Rattle.gno_bench.specs.Told.{nanos_told}
use Rattle.gno_bench.proofs.stamps.read.Given as goal

abbrev pub invariant-loop-token : goal.invariant-loop-token
invariant-loop-token l = l.outcome ≡ told_by nanos_told (take l.token-index (texts_of l.tokens))

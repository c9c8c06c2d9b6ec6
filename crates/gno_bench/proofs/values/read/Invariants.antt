use Rattle.std.proofs.Common.{◌≡◌, take}
use Rattle.gno_bench.specs.Outcome.{texts_of, told_by}
use Rattle.gno_bench.specs.Told.{magnitude_told}
use Rattle.gno_bench.proofs.values.read.Given as goal

abbrev pub invariant-loop-token : goal.invariant-loop-token
invariant-loop-token l = l.outcome ≡ told_by magnitude_told (take l.token-index (texts_of l.tokens))

use Rattle.std.proofs.Common.{◌≡◌, take, map}
use Rattle.gno_bench.specs.Outcome.{texts_of}
use Rattle.gno_bench.specs.Told.{seconds_token}
use Rattle.gno_bench.proofs.stamps.numbers_of.Given as goal

abbrev pub invariant-loop-at : goal.invariant-loop-at
invariant-loop-at l = texts_of l.tokens.items ≡ map seconds_token (take l.at-index l.stamps)

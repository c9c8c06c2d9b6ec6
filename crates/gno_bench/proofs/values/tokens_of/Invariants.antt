use Rattle.std.proofs.Common.{◌≡◌, take, map}
use Rattle.gno_num.specs.Text.{units_text}
use Rattle.gno_bench.specs.Outcome.{texts_of}
use Rattle.gno_bench.proofs.values.tokens_of.Given as goal

abbrev pub invariant-loop-value : goal.invariant-loop-value
invariant-loop-value l = texts_of l.tokens.items ≡ map units_text (take l.value-index l.values)

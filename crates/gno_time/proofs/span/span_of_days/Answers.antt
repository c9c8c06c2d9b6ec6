use Rattle.std.proofs.Common.{◌∙◌, ap, arith}
use Rattle.gno_time.specs.SpanReading.{span_in_range}
use Rattle.gno_time.proofs.SpanLemmas.{span_in_range-days}
use Rattle.gno_time.proofs.span.span_of_days.Goals as goal

pub returns : goal.returns
returns c = λ all e. c.span_in_range.ensures ∙ ap span_in_range (omega arith) ∙ span_in_range-days c.args.days all c.args.clock c.args.nanos e

use Rattle.std.proofs.Common.{◌∙◌, sym, ap}
use Rattle.gno_num.specs.Number.{numerator, denominator}
use Rattle.gno_time.specs.SpanReading.{span_in_range}
use Rattle.gno_time.proofs.SpanLemmas.{exact_span, inexact_span}
use Rattle.gno_time.proofs.span.span_of_seconds.Goals as goal

pub returns-then-scaled : goal.returns-then-scaled
returns-then-scaled c =
    let n = c.args.number.now in
    c.span_in_range.ensures ∙ ap span_in_range c.from.ensures ∙ exact_span (numerator 9 n) (denominator n) c.scaled-scaled.result c.scaled-scaled.ensures c.if-scaled.true

pub returns-else-scaled : goal.returns-else-scaled
returns-else-scaled c =
    let n = c.args.number.now in
    sym (inexact_span (numerator 9 n) (denominator n) c.scaled-scaled.result c.scaled-scaled.ensures c.if-scaled.false)

use Rattle.gno_num.specs.Span.{IsSpan}
use Rattle.gno_time.proofs.SpanPrinted.{read-seconds_text}
use Rattle.gno_time.proofs.print.seconds_text.Goals as goal

pub returns-clause-again : goal.returns-clause-again
returns-clause-again c =
    let range : IsSpan c.args.span = rw c.nanos.ensures.value at c.nanos.ensures.range in
    read-seconds_text c.args.span range

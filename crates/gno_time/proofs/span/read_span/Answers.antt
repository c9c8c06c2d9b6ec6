use Rattle.std.proofs.Common.{◌∙◌}
use Rattle.gno_time.proofs.SpanGrammar.{span_read-number, span_read-amount, span_read-clock, span_read-bad}
use Rattle.gno_time.proofs.span.read_span.Goals as goal

pub returns-clause-number : goal.returns-clause-number
returns-clause-number c =
    λ n short h. c.span_at.ensures ∙ span_read-number c.args.text.now n short h

pub returns-clause-amount : goal.returns-clause-amount
returns-clause-amount c =
    λ whole fraction word unit known h. c.span_at.ensures ∙ span_read-amount c.args.text.now whole fraction word unit known h

pub returns-clause-clock : goal.returns-clause-clock
returns-clause-clock c =
    λ days seconds nanos h. c.span_at.ensures ∙ span_read-clock c.args.text.now days seconds nanos h

pub returns-clause-bad_span : goal.returns-clause-bad_span
returns-clause-bad_span c =
    λ no_number no_units no_clock. c.span_at.ensures ∙ span_read-bad c.args.text.now no_number no_units no_clock

use Rattle.std.proofs.Common.{◌≡◌, ◌+◌, ◌-◌, ◌*◌, ◌^◌, min, ◌∙◌, sym, ap}
use Rattle.gno_num.specs.Digits.{number_onto}
use Rattle.gno_time.specs.SpanReading.{span_in_range}
use Rattle.gno_time.proofs.SpanLemmas.{units_none, units_some}
use Rattle.gno_time.proofs.span.span_of_units.Goals as goal

pub returns-in-None : goal.returns-in-None
returns-in-None c =
    sym (units_none c.args.whole.now c.args.fraction.now c.args.unit c.in-None.ensures.none)

pub returns-in-Some : goal.returns-in-Some
returns-in-Some c =
    let whole : c.from.result ≡ min (number_onto 0 c.args.whole.now) (2 ^ 64 - 1) = c.from.ensures ∙ c.number_onto.ensures in
    let nanos = ap (λ n. n * c.args.unit + c.in-Some.part) whole in
    c.span_in_range.ensures ∙ ap span_in_range (rw (c.from-in-Some.ensures, c.from-in-Some-2.ensures) nanos) ∙ units_some c.args.whole.now c.args.fraction.now c.args.unit c.in-Some.part c.requires.least c.in-Some.ensures.some

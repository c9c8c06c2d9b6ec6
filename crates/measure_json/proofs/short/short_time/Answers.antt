use Rattle.std.proofs.Common.{◌≡◌, ◌-◌, ◌*◌, ◌^◌, ap, ◌∙◌, arith}
use Rattle.measure_json.proofs.ShortLemmas.{raised_small, short_time_is}
use Rattle.measure_json.proofs.short.short_time.Goals as goal

pub overflow_mul-nanos : goal.overflow_mul-nanos
overflow_mul-nanos c =
    let small = raised_small c.in_ok-number.number 10 c.in_ok-number.places 9 c.in_ok-number.ensures.small (omega (arith, c.in_ok-number.ensures.found.few_places)) in
    rw c.power_of_ten.ensures (omega (arith, small))

pub returns : goal.returns
returns c =
    let is = c.in_ok-stamp.ensures in
    let nanos : c.in_ok-stamp.stamp ≡ c.in_ok-number.number * 10 ^ (9 - c.in_ok-number.places) = is.1 ∙ ap (λ p. c.in_ok-number.number * p) c.power_of_ten.ensures in
    short_time_is c.args.text.now c.in_ok-number.number c.in_ok-number.places c.in_ok-number.rest.now c.in_ok-stamp.stamp c.in_ok-number.ensures.found nanos (omega (arith, is.0, is.1))

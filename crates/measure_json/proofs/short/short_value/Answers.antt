use Rattle.std.proofs.Common.{◌≡◌, ◌-◌, ◌*◌, ◌^◌, ◌++◌, ap, arith}
use Rattle.gno_num.specs.Number.{sign_text}
use Rattle.measure_json.proofs.NumberLemmas.{minus_join}
use Rattle.measure_json.proofs.ShortLemmas.{raised_small, short_value_is}
use Rattle.measure_json.proofs.short.short_value.Goals as goal

pub overflow_mul-units : goal.overflow_mul-units
overflow_mul-units c =
    let small = raised_small c.in_ok-number.number 12 c.in_ok-number.places 6 c.in_ok-number.ensures.small c.in_ok-number.ensures.found.few_places in
    rw c.power_of_ten.ensures (omega (arith, small))

pub signed_value-requires : goal.signed_value-requires
signed_value-requires c =
    let small = raised_small c.in_ok-number.number 12 c.in_ok-number.places 6 c.in_ok-number.ensures.small c.in_ok-number.ensures.found.few_places in
    rw c.power_of_ten.ensures (omega (arith, small))

pub returns : goal.returns
returns c =
    let number = c.in_ok-number.number in
    let units = number * c.power_of_ten.result in
    let small = raised_small number 12 c.in_ok-number.places 6 c.in_ok-number.ensures.small c.in_ok-number.ensures.found.few_places in
    let raised : units ≡ number * 10 ^ (6 - c.in_ok-number.places) = ap (λ p. number * p) c.power_of_ten.ensures in
    let sign : c.args.text.now ≡ sign_text c.skip-negative.result.0 ++ c.skip-negative.result.1.now = rw (c.skip-negative.ensures.found, c.skip-negative.ensures.rest) (minus_join c.args.text.now) in
    rw c.in_ok-value.ensures
    (short_value_is c.skip-negative.result.0 c.args.text.now c.skip-negative.result.1.now number c.in_ok-number.places c.in_ok-number.rest.now units sign c.in_ok-number.ensures.found raised (omega (arith, small, raised)))

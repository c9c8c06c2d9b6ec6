use Rattle.std.proofs.Common.{◌-◌, ◌^◌, arith, append_assoc}
use Rattle.std.proofs.lemmas.Grind.{common_steps}
use Rattle.std.proofs.lemmas.Nat.{mod_below}
use Rattle.gno_num.proofs.DigitLemmas.{pow_ten_above, first_digit, fraction_digits_step}
use Rattle.gno_num.proofs.text.+push_fraction.Goals as goal

pub nonzero_div-fraction : goal.nonzero_div-fraction
nonzero_div-fraction t c = omega (arith, pow_ten_above (c.args.places - 1))

pub overflow_cast-fraction : goal.overflow_cast-fraction
overflow_cast-fraction t c =
    let digit = first_digit c.args.places c.args.fraction (omega arith) c.requires.fits in
    rw c.pow-unit.ensures (omega arith)

pub overflow_add-fraction : goal.overflow_add-fraction
overflow_add-fraction t c =
    let digit = first_digit c.args.places c.args.fraction (omega arith) c.requires.fits in
    rw c.pow-unit.ensures (omega arith)

pub nonzero_rem-rest : goal.nonzero_rem-rest
nonzero_rem-rest t c = omega (arith, pow_ten_above (c.args.places - 1))

pub push_fraction-requires : goal.push_fraction-requires
push_fraction-requires t c =
    let above = pow_ten_above (c.args.places - 1) in
    let rest = mod_below c.args.fraction (10 ^ (c.args.places - 1)) above in
    (omega arith, (omega arith, rw c.pow-unit.ensures rest))

pub returns-then-rest-eq0 : goal.returns-then-rest-eq0
returns-then-rest-eq0 t c =
    let step = fraction_digits_step c.args.places c.args.fraction (omega arith) in
    rw step (grind (arith, common_steps, append_assoc))

pub returns-else-rest-eq0 : goal.returns-else-rest-eq0
returns-else-rest-eq0 t c =
    let step = fraction_digits_step c.args.places c.args.fraction (omega arith) in
    rw step (grind (arith, common_steps, append_assoc))

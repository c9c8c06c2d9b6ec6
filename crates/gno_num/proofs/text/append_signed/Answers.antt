use Rattle.std.proofs.Common.{◌≡◌, ◌^◌, arith}
use Rattle.std.proofs.lemmas.Nat.{mod_below}
use Rattle.gno_num.proofs.DigitLemmas.{pow_ten_above, pow_ten_order}
use Rattle.gno_num.proofs.text.append_signed.Goals as goal

pub nonzero_div-whole : goal.nonzero_div-whole
nonzero_div-whole c = omega (arith, pow_ten_above c.args.places)

pub nonzero_rem-fraction : goal.nonzero_rem-fraction
nonzero_rem-fraction c = omega (arith, pow_ten_above c.args.places)

pub overflow_cast-fraction : goal.overflow_cast-fraction
overflow_cast-fraction c =
    let most = pow_ten_order c.args.places 18 (omega arith) in
    let below = mod_below c.args.units (10 ^ c.args.places) (pow_ten_above c.args.places) in
    let same : c.from-2.result ≡ 10 ^ c.args.places = omega arith in
    rw same (omega arith)

pub push_fraction-requires-clause-fits : goal.push_fraction-requires-clause-fits
push_fraction-requires-clause-fits c =
    let below = mod_below c.args.units (10 ^ c.args.places) (pow_ten_above c.args.places) in
    let same : c.from-2.result ≡ 10 ^ c.args.places = omega arith in
    rw same below

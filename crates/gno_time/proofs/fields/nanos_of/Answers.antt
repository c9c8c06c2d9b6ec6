use Rattle.std.proofs.Common.{◌≡◌, refl, arith}
use Rattle.gno_num.specs.Digits.{number_onto}
use Rattle.gno_time.proofs.FieldLemmas.{nanos_below, number_below}
use Rattle.gno_time.proofs.fields.nanos_of.Goals as goal

pub overflow_mul-result : goal.overflow_mul-result
overflow_mul-result c =
    let ds = c.args.digits.now in
    let fits : c.number_onto.result ≡ number_onto 0 ds = omega (arith, number_below ds c.requires.digits c.requires.few) in
    rw (fits, c.pow.ensures) (omega (arith, nanos_below ds c.requires.digits c.requires.few))

pub returns-clause-value : goal.returns-clause-value
returns-clause-value c =
    let ds = c.args.digits.now in
    let fits : c.number_onto.result ≡ number_onto 0 ds = omega (arith, number_below ds c.requires.digits c.requires.few) in
    rw (fits, c.pow.ensures) refl

pub returns-clause-most : goal.returns-clause-most
returns-clause-most c =
    let ds = c.args.digits.now in
    let fits : c.number_onto.result ≡ number_onto 0 ds = omega (arith, number_below ds c.requires.digits c.requires.few) in
    rw (fits, c.pow.ensures) (nanos_below ds c.requires.digits c.requires.few)

use Rattle.std.proofs.Common.{◌≡◌, min, ◌∙◌, arith}
use Rattle.gno_num.specs.Digits.{number_onto}
use Rattle.gno_num.specs.Number.{Number}
use Rattle.gno_num.proofs.ScaleLemmas.{scaled-lowers, scaled-raises}
use Rattle.gno_num.proofs.number.Number.scaled.Goals as goal

pub returns-then-self : goal.returns-then-self
returns-then-self c =
    let i = c.self.inside in
    let n : Number = record { negative = i.negative; whole = i.whole.now; fraction = i.fraction.now; lowers = i.lowers; exponent = i.exponent.now } in
    let clamped : c.min-exponent.result ≡ min (number_onto 0 n.exponent) 100 = omega arith in
    rw (← c.self.view_is) (c.by_powers.ensures ∙ scaled-lowers n c.args.places c.min-exponent.result c.if-self.true clamped (omega arith) c.self.invariant)

pub returns-else-self : goal.returns-else-self
returns-else-self c =
    let i = c.self.inside in
    let n : Number = record { negative = i.negative; whole = i.whole.now; fraction = i.fraction.now; lowers = i.lowers; exponent = i.exponent.now } in
    let clamped : c.min-exponent.result ≡ min (number_onto 0 n.exponent) 100 = omega arith in
    rw (← c.self.view_is) (c.by_powers-else-self.ensures ∙ scaled-raises n c.args.places c.min-exponent.result c.if-self.false clamped c.self.invariant)

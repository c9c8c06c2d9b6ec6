use Rattle.std.proofs.Common.{◌≡◌, ◌-◌, ◌*◌, ◌^◌, min, ◌++◌, ◌∙◌, sym, arith}
use Rattle.gno_num.specs.Digits.{number_onto}
use Rattle.gno_num.proofs.ScaleLemmas.{whole_number, one_more_power, same_units}
use Rattle.gno_num.proofs.number.raised.Goals as goal

pub loop-preserved : goal.loop-preserved
loop-preserved c =
    let number = number_onto 0 (c.args.whole.now ++ c.args.fraction.now) in
    let more = one_more_power number c.loop.counter in
    omega (arith, more, c.loop.invariant)

pub returns : goal.returns
returns c =
    let number = number_onto 0 (c.args.whole.now ++ c.args.fraction.now) in
    let done : c.loop.units ≡ min (number * 10 ^ c.args.by) (2 ^ 64 - 1) = let end : c.loop.counter ≡ c.args.by = omega arith in rw end at c.loop.invariant in
    same_units _ _ done ∙ sym (whole_number (number * 10 ^ c.args.by))

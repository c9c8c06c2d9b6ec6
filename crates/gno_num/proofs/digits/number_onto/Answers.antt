use Rattle.std.proofs.Common.{◌≡◌, ℕ, ◌+◌, ◌-◌, ◌*◌, ◌^◌, min, drop, get_or, ap, ◌∙◌, sym, arith}
use Rattle.std.proofs.lemmas.List.{at_drop_more, at_drop_all}
use Rattle.gno_num.specs.Digits.{number_onto}
use Rattle.gno_num.proofs.RowLemmas.{number_onto-min}
use Rattle.gno_num.proofs.digits.number_onto.Goals as goal

pub loop-digit-preserved : goal.loop-digit-preserved
loop-digit-preserved c =
    let ds = c.args.digits.now in
    let i = c.loop-digit.digit-index in
    let x = get_or ds i 0 in
    let total = c.loop-digit.total in
    let rest = drop (i + 1) ds in
    let most = 2 ^ 64 - 1 in
    let next : c.saturating_add-total.result ≡ min (10 * total + (x - 48)) most = omega arith in
    let opened : min (number_onto total (drop i ds)) most ≡ min (number_onto (10 * total + (x - 48)) rest) most = at_drop_more (λ xs. min (number_onto total xs) most) ds i 0 (omega arith) in
    let left = ap (λ (n : ℕ). min (number_onto n rest) most) next ∙ number_onto-min _ _ rest ∙ sym opened ∙ c.loop-digit.invariant.left in
    record { fits = omega arith; left = left }

pub returns : goal.returns
returns c =
    let total = c.loop-digit.total in
    let most = 2 ^ 64 - 1 in
    let done : min (number_onto total (drop c.loop-digit.digit-index c.args.digits.now)) most ≡ min total most = at_drop_all (λ xs. min (number_onto total xs) most) c.args.digits.now c.loop-digit.digit-index (omega arith) in
    omega (arith, done, c.loop-digit.invariant.left)

use Rattle.std.proofs.Common.{ℕ, ◌-◌, ◌^◌, min, ◌∙◌, ap, sym}
use Rattle.gno_num.specs.Digits.{number_onto}
use Rattle.gno_num.proofs.RowLemmas.{number_onto-min, number_onto-append}
use Rattle.gno_num.proofs.number.row_number.Goals as goal

pub returns : goal.returns
returns c =
    let most = 2 ^ 64 - 1 in
    let back = c.args.back.now in
    c.number_onto-2.ensures ∙ ap (λ (n : ℕ). min (number_onto n back) most) c.number_onto.ensures ∙ number_onto-min _ most back ∙ ap (λ (n : ℕ). min n most) (sym (number_onto-append 0 c.args.front.now back))

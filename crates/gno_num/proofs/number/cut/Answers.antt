use Rattle.std.proofs.Common.{◌≡◌, ℕ, ◌-◌, ◌^◌, ◌⊎◌, inl, inr, true, length, ◌++◌, ◌∙◌, ap, sym, arith, length-append}
use Rattle.std.specs.Str.{all_ascii_digits}
use Rattle.gno_num.specs.Digits.{number_onto}
use Rattle.gno_num.specs.Scaled.{scaled_of}
use Rattle.std.proofs.lemmas.Bool.{cases_lt}
use Rattle.gno_num.proofs.RowLemmas.{regrouped, all_ascii_digits-back}
use Rattle.gno_num.proofs.ScaleLemmas.{cut_is}
use Rattle.gno_num.proofs.number.cut.Goals as goal

pub returns : goal.returns
returns c =
    let whole = c.args.whole.now in
    let fraction = c.args.fraction.now in
    let kept = c.split_at.result.0.now ++ c.split_at-2.result.0.now in
    let left = c.split_at.result.1.now ++ c.split_at-2.result.1.now in
    let row = whole ++ fraction in
    let either : (length c.split_at-2.result.0.now ≡ 0) ⊎ (length c.split_at.result.1.now ≡ 0) = elim (cases_lt c.args.at (length whole)) [
      | inl within ↦ inl (omega arith)
      | inr over ↦ inr (omega arith)
    ] in
    let parts : row ≡ kept ++ left = ap (λ xs. xs ++ fraction) c.split_at.ensures.by_index.0 ∙ ap (λ xs. (c.split_at.result.0.now ++ c.split_at.result.1.now) ++ xs) c.split_at-2.ensures.by_index.0 ∙ regrouped _ _ _ _ either in
    let len : length left ≡ length row - c.args.at = omega (arith, length-append c.split_at.result.1.now c.split_at-2.result.1.now, length-append whole fraction) in
    let all : all_ascii_digits (kept ++ left) ≡ true = rw parts at c.requires.row.digits in
    let is = cut_is kept left (all_ascii_digits-back kept left all) (omega arith) in
    rw (c.row_number.ensures, c.row_number-2.ensures, c.first.ensures) (sym is ∙ ap (λ (n : ℕ). scaled_of (number_onto 0 (kept ++ left)) (10 ^ n)) len ∙ ap (λ xs. scaled_of (number_onto 0 xs) (10 ^ (length row - c.args.at))) (sym parts))

use Rattle.std.proofs.Common.{◌≡◌, ◌-◌, ◌<◌, suc, get_or, length, refl, ap, sym, ◌∙◌, arith}
use Rattle.std.proofs.lemmas.Bool.{false≢true}
use Rattle.std.proofs.lemmas.List.{get_or_default}
use Rattle.series_model.proofs.Rising.{Rises_from_rising, rising_from_Rises, times}
use Rattle.bound_series.proofs.Places.{rising_of, rises_at}
use Rattle.bound_series.proofs.settle.rises.Goals as goal

pub returns-then-not-is_before : goal.returns-then-not-is_before
returns-then-not-is_before c =
    let ms = c.args.measures.now in
    let i = c.loop-i.i in
    let before = c.index-measures-i.result in
    let later = c.index-measures-i-in-loop-i.result in
    let next : suc (i - 1) ≡ i = omega arith in
    let below : i < length ms = omega arith in (
      λ is. absurd (false≢true is),
      λ rising.
          let up = rises_at ms (i - 1) before (Rises_from_rising (times ms) rising) (omega arith) in
          let first : (get_or ms (i - 1) before).at ≡ before.at = ap (λ m. m.at) (sym c.index-measures-i.is) in
          let second : (get_or ms (suc (i - 1)) before).at ≡ later.at = ap (λ k. (get_or ms k before).at) next ∙ ap (λ m. m.at) (get_or_default ms i before later below ∙ sym c.index-measures-i-in-loop-i.is) in
          absurd (false≢true (sym c.if-not-is_before.true ∙ c.is_before.ensures.1 (omega (arith, up, first, second)))),
    )

pub returns : goal.returns
returns c =
    let ms = c.args.measures.now in
    (λ is. rising_from_Rises (times ms) (rising_of ms (λ k d less. c.loop-i.invariant k d (omega arith))), λ rising. refl)

use Rattle.std.proofs.Common.{◌≡◌, ◌-ℤ◌, sym, ap, ◌∙◌, arith, rules, to_z, of_z, w64, SFits}
use Rattle.std.proofs.lemmas.Int.{ints, to_z-of_z}
use Rattle.std.proofs.lemmas.Option.{get_or_from_slice_get}
use Rattle.series_model.specs.declared.measure.Measure.{Measure}
use Rattle.series_model.proofs.Tallies.{plain_more, rate_more}
use Rattle.series_model.proofs.bucket.value_for.Goals as goal

pub returns-then-not-is_rate-clause-value : goal.returns-then-not-is_rate-clause-value
returns-then-not-is_rate-clause-value c m there =
    let series = c.args.series.now in
    let i = c.args.i in
    let value : c.units-value.result ≡ m.value =
    c.units-value.ensures.value ∙ ap (λ (x : Measure). x.value) (get_or_from_slice_get series i m c.index-series-i.result there) in
    let same : to_z w64 (of_z w64 c.units-value.result) ≡ c.units-value.result = search (rules, ints) in
    plain_more c.args.kind series i m _ (sym c.is_rate.ensures ∙ c.if-not-is_rate.true) (omega arith) there (same ∙ value)

pub returns-clause-value : goal.returns-clause-value
returns-clause-value c m there =
    let series = c.args.series.now in
    let i = c.args.i in
    let p = c.index-series-i-2.result in
    let value : c.units-value.result ≡ m.value =
    c.units-value.ensures.value ∙ ap (λ (x : Measure). x.value) (get_or_from_slice_get series i m c.index-series-i.result there) in
    let before : c.units.result ≡ p.value = c.units.ensures.value ∙ ap (λ (x : Measure). x.value) (sym c.index-series-i-2.is) in
    let a : to_z w64 (of_z w64 c.units-value.result) ≡ c.units-value.result = search (rules, ints) in
    let b : to_z w64 (of_z w64 c.units.result) ≡ c.units.result = search (rules, ints) in
    let fits : SFits w64 (c.units-value.result -ℤ c.units.result) = search (rules, ints) in
    let less : to_z w64 (of_z w64 (to_z w64 (of_z w64 c.units-value.result) -ℤ to_z w64 (of_z w64 c.units.result))) ≡ m.value -ℤ p.value =
    ap (λ x. to_z w64 (of_z w64 (x -ℤ to_z w64 (of_z w64 c.units.result)))) a
    ∙ ap (λ x. to_z w64 (of_z w64 (c.units-value.result -ℤ x))) b
    ∙ to_z-of_z w64 (c.units-value.result -ℤ c.units.result) fits
    ∙ ap (λ x. x -ℤ c.units.result) value ∙ ap (λ x. m.value -ℤ x) before in
    rate_more c.args.kind series i m p _ (sym c.is_rate.ensures ∙ c.if-not-is_rate.false) (omega arith) (omega arith) there c.index-series-i-2.is less

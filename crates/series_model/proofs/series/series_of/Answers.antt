use Rattle.std.proofs.Common.{◌≡◌, ℕ, map, sym, ap, subst, ◌∙◌, arith, rules, take_all}
use Rattle.series_model.specs.declared.measure.Measure.{Measure}
use Rattle.series_model.specs.Series.{IsSeries, series_of_measures}
use Rattle.series_model.proofs.Put.{keyed-more, values-keyed}
use Rattle.series_model.proofs.SeriesLaws.{series_exact}
use Rattle.series_model.proofs.series.series_of.Goals as goal

pub loop-m-preserved : goal.loop-m-preserved
loop-m-preserved c =
    keyed-more c.args.accepted.now c.loop-m.m-index c.m-item.result c.loop-m.by_time.entries c.put.new.by_time.entries (omega arith) c.m-item.is c.loop-m.invariant c.in_ok-put.ensures

pub returns : goal.returns
returns c =
    let all = c.args.accepted.now in
    let given : c.in_ok-collect.field-0.items ≡ map (λ (e : ℕ × Measure). e.1) c.loop-m.by_time.entries = search rules in
    let is : c.in_ok-collect.field-0.items ≡ series_of_measures all =
    given ∙ ap (map (λ (e : ℕ × Measure). e.1)) c.loop-m.invariant ∙ values-keyed _ ∙ ap series_of_measures (take_all c.loop-m.m-index all (omega arith)) in
    record { value = is; exact = subst (IsSeries all) (sym is) (series_exact all) }

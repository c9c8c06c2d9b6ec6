use Rattle.std.proofs.Common.{◌≡◌, sym, ap, subst, ◌∙◌, rules}
use Rattle.std.specs.List.Sorted.{IsStrictlyIncreasing}
use Rattle.series_model.specs.Series.{series_of_measures}
use Rattle.series_model.proofs.Rising.{rising_from_Rises, times}
use Rattle.series_model.proofs.SeriesLaws.{Rises-series}
use Rattle.bound_series.specs.Turn.{after_batch}
use Rattle.bound_series.proofs.Scratch.{accept_scratch}
use Rattle.bound_series.proofs.raw.Raw.accept.Goals as goal

pub put_series-requires : goal.put_series-requires
put_series-requires c = record {
  rising = subst (λ l. IsStrictlyIncreasing (times l)) (sym (c.as_slice-2.ensures.value ∙ c.in_ok-series.ensures)) (rising_from_Rises (times (series_of_measures c.in_ok-accepted.accepted.items)) (Rises-series c.in_ok-accepted.accepted.items));
}

pub returns-clause-from_scratch : goal.returns-clause-from_scratch
returns-clause-from_scratch c cut accepted le is =
    let p = c.args.policy.now in
    let batch = c.args.batch.now in
    let turn : c.put_series.new.self ≡ after_batch p c.args.self.now batch = search rules in
    turn ∙ ap (λ t. after_batch p t batch) is ∙ accept_scratch p cut accepted batch le

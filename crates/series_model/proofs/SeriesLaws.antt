-- The series that is computed is the one series.
use Rattle.std.proofs.Common.{◌≡◌, List, [], ◌∙◌, sym}
use Rattle.series_model.specs.declared.measure.Measure.{Measure}
use Rattle.series_model.specs.Series.{IsSeries, series_of_measures}
use Rattle.series_model.proofs.Rising.{Rises, times, Rises-fold, Rises_from_rising, rising_from_Rises, last_value-series, member_value, value_member}
use Rattle.series_model.proofs.ByKey.{one_rising}

pub Rises-series : (measures : List Measure) → Rises (times (series_of_measures measures))
Rises-series measures = Rises-fold measures [] tt

pub series_exact : (measures : List Measure) → IsSeries measures (series_of_measures measures)
series_exact measures =
    let series = series_of_measures measures in
    record {
      rising = rising_from_Rises (times series) (Rises-series measures);
      members = λ m. (λ c. sym (last_value-series measures m.at) ∙ member_value series m (Rises-series measures) c, λ found. value_member series m (last_value-series measures m.at ∙ found));
    }

pub series_one : (measures xs ys : List Measure) → IsSeries measures xs → IsSeries measures ys → xs ≡ ys
series_one measures xs ys h k =
    one_rising (λ (m : Measure). m.at) xs ys (Rises_from_rising (times xs) h.rising) (Rises_from_rising (times ys) k.rising) (λ m c. (k.members m).1 ((h.members m).0 c)) (λ m c. (h.members m).1 ((k.members m).0 c))

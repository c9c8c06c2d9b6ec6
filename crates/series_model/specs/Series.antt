-- The series of accepted measures.
use Rattle.std.specs.Prelude.{◌≡◌, ◌↔◌, ℕ, nat_lt, ◌==◌, if◌then◌else◌, List, [], ◌∷◌, map, Option, Some, None, ℤ}
use Rattle.std.specs.List.{fold, Contains}
use Rattle.std.specs.List.Sorted.{IsStrictlyIncreasing}
use Rattle.series_model.specs.declared.measure.Measure.{Measure}

-- the first of two values that is there
abbrev pub first_there : Option ℤ → Option ℤ → Option ℤ
first_there None other = other
first_there (Some v) other = Some v

-- the value of the last measure of a time, where there is one
abbrev pub last_value : List Measure → ℕ → Option ℤ
last_value [] at = None
last_value (m ∷ measures) at =
    first_there (last_value measures at) (if m.at == at then Some m.value else None)

-- Each timestamp once, in order, with the value of its last measure: among equal timestamps the
-- later measure wins.
pub record IsSeries (measures series : List Measure) : Type 0 where
  pub rising : IsStrictlyIncreasing (map (λ m. m.at) series)
  pub members : (m : Measure) → Contains series m ↔ (last_value measures m.at ≡ Some m.value)

-- a measure put in its place by time, instead of one of its time
abbrev pub put : List Measure → Measure → List Measure
put [] m = m ∷ []
put (x ∷ series) m =
    if nat_lt m.at x.at then m ∷ x ∷ series
    else (if m.at == x.at then m ∷ series else x ∷ put series m)

-- the series, as a list that is computed; that it is the series is a law of `series_is_exact`
abbrev pub series_of_measures : List Measure → List Measure
series_of_measures measures = fold put [] measures

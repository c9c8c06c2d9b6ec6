-- The points of a series: what the buckets of a granularity come to.
use Rattle.std.specs.Prelude.{◌≡◌, ◌↔◌, ℕ, ◌%◌, ◌==◌, nat_le, if◌then◌else◌, List, [], ◌∷◌, map, Option, Some}
use Rattle.std.specs.Option.{option_map}
use Rattle.std.specs.List.{filter, filter_map, Contains}
use Rattle.std.specs.List.Sorted.{IsStrictlyIncreasing}
use Rattle.gno_num.specs.Floor.{floor_of}
use Rattle.archive_policy.specs.declared.kind.Kind.{Kind}
use Rattle.series_model.specs.declared.measure.Measure.{Measure}
use Rattle.series_model.specs.declared.point.Point.{Point}
use Rattle.series_model.specs.Bucket.{value_at}

-- a start in front of others, unless it is the first of them
abbrev pub with_start : ℕ → List ℕ → List ℕ
with_start start [] = start ∷ []
with_start start (next ∷ starts) = if start == next then next ∷ starts else start ∷ next ∷ starts

-- where the stretches of this length begin in which times lie; each once, where the times rise
abbrev pub starts_of : ℕ → List ℕ → List ℕ
starts_of length [] = []
starts_of length (at ∷ times) = with_start (floor_of at length) (starts_of length times)

-- the point of the bucket that begins at this time, where it has a value
abbrev pub point_at : Kind → ℕ → List Measure → ℕ → Option Point
point_at kind granularity series start =
    option_map (λ value. record { at = start; value = value }) (value_at kind granularity series start)

-- the points of a kind and granularity of a series, by time
abbrev pub points_of : Kind → ℕ → List Measure → List Point
points_of kind granularity series =
    filter_map (point_at kind granularity series) (starts_of granularity (map (λ m. m.at) series))

-- the points that aren't before a time
abbrev pub points_from : ℕ → List Point → List Point
points_from from points = filter (λ p. nat_le from p.at) points

-- A point of a series: its time is a multiple of the granularity, and its value is that of the bucket
-- there.
pub record IsPoint (kind : Kind) (granularity : ℕ) (series : List Measure) (point : Point) : Type 0 where
  pub multiple : point.at % granularity ≡ 0
  pub value : value_at kind granularity series point.at ≡ Some point.value

-- these points of a series by time, and no others
pub record ArePoints (P : Point → Type 0) (points : List Point) : Type 0 where
  pub rising : IsStrictlyIncreasing (map (λ p. p.at) points)
  pub members : (point : Point) → Contains points point ↔ P point

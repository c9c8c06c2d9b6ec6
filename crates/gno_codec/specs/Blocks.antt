-- Blocks: a split's points, and a chunk of raw measures.
use Rattle.std.specs.Prelude.{◌≡◌, ℕ, ◌+◌, ◌-◌, ◌*◌, ◌/◌, ◌^◌, ◌<◌, ◌≤◌, List, ◌++◌, length, map, All}
use Rattle.std.specs.List.{flat_map}
use Rattle.std.specs.List.Sorted.{IsStrictlyIncreasing}
use Rattle.std.specs.Int.{cast_unsigned, w128}
use Rattle.byteorder.specs.Endian.{big_bytes}
use Rattle.gno_num.specs.Fraction.{IsFraction}
use Rattle.series_model.specs.declared.measure.Measure.{Measure}
use Rattle.series_model.specs.declared.point.Point.{Point}
use Rattle.series_model.specs.declared.point.Split.{Split}
use Rattle.gno_codec.specs.Incoming.{measure_bytes, IsMeasure}

-- the number of a point's bucket within its split, counted from 0
abbrev pub position_of : ℕ → ℕ → Point → ℕ
position_of granularity key point = (point.at - key) / granularity

-- the position in two bytes, the numerator in sixteen, and the denominator in eight
abbrev pub point_bytes : ℕ → ℕ → Point → List ℕ
point_bytes granularity key point =
    big_bytes 2 (position_of granularity key point) ++ big_bytes 16 (cast_unsigned w128 point.value.num) ++ big_bytes 8 point.value.den

-- the one spelling of a split: how many points, and the points; the key stands elsewhere
abbrev pub split_bytes : ℕ → Split → List ℕ
split_bytes granularity split =
    big_bytes 2 (length split.points) ++ flat_map (point_bytes granularity split.key) split.points

-- the one spelling of a chunk: how many measures, and the measures
abbrev pub raw_bytes : List Measure → List ℕ
raw_bytes measures = big_bytes 2 (length measures) ++ flat_map measure_bytes measures

-- a point stands in the split with this key: it begins one of the 3,600 buckets from the key on
pub record IsPlaced (granularity key : ℕ) (point : Point) : Type 0 where
  pub position : ℕ
  pub within : position < 3600
  pub bucket : point.at ≡ key + position * granularity

-- a point of the split with this key that has a spelling
pub record IsPointOf (granularity key : ℕ) (point : Point) : Type 0 where
  pub placed : IsPlaced granularity key point
  pub time : point.at < 9 * 10 ^ 18
  pub value : IsFraction point.value.num point.value.den
  pub den : point.value.den < 2 ^ 64

-- 1 to 3,600 points of a split, by rising time
pub record IsFilled (granularity : ℕ) (split : Split) : Type 0 where
  pub some : 1 ≤ length split.points
  pub few : length split.points ≤ 3600
  pub placed : All (IsPlaced granularity split.key) split.points
  pub rising : IsStrictlyIncreasing (map (λ point. point.at) split.points)

-- a split that has a spelling
pub record IsSplit (granularity : ℕ) (split : Split) : Type 0 where
  pub filled : IsFilled granularity split
  pub each : All (IsPointOf granularity split.key) split.points

-- 1 to 3,600 measures, by rising time
pub record IsRising (measures : List Measure) : Type 0 where
  pub some : 1 ≤ length measures
  pub few : length measures ≤ 3600
  pub rising : IsStrictlyIncreasing (map (λ measure. measure.at) measures)

-- a chunk that has a spelling
pub record IsChunk (measures : List Measure) : Type 0 where
  pub rising : IsRising measures
  pub each : All IsMeasure measures

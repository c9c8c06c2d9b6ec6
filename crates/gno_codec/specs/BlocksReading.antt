-- Reading blocks.
use Rattle.std.specs.Prelude.{ℕ, ◌+◌, ◌*◌, ◌^◌, nat_lt, nat_le, ◌&&◌, if◌then◌else◌, Bool, List, Option, Some, None, Result, ℤ, unsigned_abs}
use Rattle.std.specs.Int.{w128}
use Rattle.gno_num.specs.Fraction.{Fraction}
use Rattle.series_model.specs.declared.measure.Measure.{Measure}
use Rattle.series_model.specs.declared.point.Point.{Point}
use Rattle.series_model.specs.declared.point.Split.{Split}
use Rattle.gno_codec.specs.Reading.{Reading, ◌>>=◌, done, number_at, signed_at, standing_for, tested, is_above, items_at, whole}
use Rattle.gno_codec.specs.IncomingReading.{value_at}

-- a time above that of the item before, where there is one
abbrev pub is_next_time : {A : Type 0} → (A → ℕ) → Option A → ℕ → Bool
is_next_time time before nanos = nat_lt nanos (9 * 10 ^ 18) && is_above time before nanos

-- how many points or measures a block has
unfoldable pub count_at : Reading ℕ
count_at = tested (λ n. nat_le 1 n && nat_le n 3600) (number_at 2)

-- when the bucket at a position of a split begins, if it may stand behind the points before it
abbrev pub bucket_time : ℕ → ℕ → Option Point → ℕ → Option ℕ
bucket_time granularity key before position =
    if nat_lt position 3600 && is_next_time (λ point. point.at) before (key + position * granularity) then Some (key + position * granularity)
    else None

-- the time of a point, by its position
unfoldable pub time_after : ℕ → ℕ → Option Point → Reading ℕ
time_after granularity key before = standing_for (bucket_time granularity key before) (number_at 2)

-- a numerator
unfoldable pub num_at : Reading ℤ
num_at = tested (λ num. nat_le (unsigned_abs num) (10 ^ 38)) (signed_at w128)

-- a fraction
unfoldable pub fraction_at : Reading Fraction
fraction_at = do
  num ← num_at
  den ← tested (λ den. nat_le 1 den) (number_at 8)
  done (record { num = num; den = den })

-- a point of the split with this key, later than the one before it
unfoldable pub point_after : ℕ → ℕ → Option Point → Reading Point
point_after granularity key before = do
  at ← time_after granularity key before
  value ← fraction_at
  done (record { at = at; value = value })

-- a time later than that of the measure before
unfoldable pub later_time : Option Measure → Reading ℕ
later_time before = tested (is_next_time (λ measure. measure.at) before) (number_at 8)

-- a measure later than the one before it
unfoldable pub measure_after : Option Measure → Reading Measure
measure_after before = do
  at ← later_time before
  value ← value_at
  done (record { at = at; value = value })

-- a split
unfoldable pub split_at : ℕ → ℕ → Reading Split
split_at granularity key = do
  count ← count_at
  points ← items_at (point_after granularity key) None count
  done (record { key = key; points = points })

-- a chunk
unfoldable pub raw_at : Reading (List Measure)
raw_at = do
  count ← count_at
  items_at measure_after None count

-- the split with this key that is all of the bytes, or the place of its fault
unfoldable pub split_of : ℕ → ℕ → List ℕ → Result Split ℕ
split_of granularity key bytes = whole (split_at granularity key) bytes

-- the chunk that is all of the bytes, or the place of its fault
unfoldable pub raw_of : List ℕ → Result (List Measure) ℕ
raw_of bytes = whole raw_at bytes

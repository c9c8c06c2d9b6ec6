-- The records of the incoming log.
use Rattle.std.specs.Prelude.{ℕ, ◌-◌, ◌*◌, ◌^◌, ◌<◌, ◌≤◌, List, ◌∷◌, ◌++◌, length, All, unsigned_abs}
use Rattle.std.specs.List.{flat_map}
use Rattle.std.specs.Int.{cast_unsigned, w64}
use Rattle.byteorder.specs.Endian.{big_bytes}
use Rattle.series_model.specs.declared.measure.Measure.{Measure}
use Rattle.gno_codec.specs.declared.item.IncomingItem.{IncomingItem}
use Rattle.gno_codec.specs.declared.item.IncomingItem.TheVariants.{Post, Next}

-- a stamp and a value, in eight bytes each
abbrev pub measure_bytes : Measure → List ℕ
measure_bytes m = big_bytes 8 m.at ++ big_bytes 8 (cast_unsigned w64 m.value)

-- `Post`: its number, the metric, how many measures, and the measures
abbrev pub post_bytes : ℕ → ℕ → List Measure → List ℕ
post_bytes number metric measures =
    1 ∷ big_bytes 8 number ++ big_bytes 16 metric ++ big_bytes 4 (length measures)
    ++ flat_map measure_bytes measures

-- `Next`: the number
abbrev pub next_bytes : ℕ → List ℕ
next_bytes number = 2 ∷ big_bytes 8 number

-- the one spelling of a record
abbrev pub incoming_bytes : IncomingItem → List ℕ
incoming_bytes (Post number metric batch) = post_bytes number metric.0 batch
incoming_bytes (Next number) = next_bytes number

-- a measure of the metric store
pub record IsMeasure (m : Measure) : Type 0 where
  pub time : m.at < 9 * 10 ^ 18
  pub magnitude : unsigned_abs m.value ≤ 10 ^ 18

-- a post that has a record
pub record IsPost (number metric : ℕ) (measures : List Measure) : Type 0 where
  pub first : 1 ≤ number
  pub last : number ≤ 2 ^ 63 - 1
  pub id : metric < 2 ^ 128
  pub count : length measures ≤ 50000
  pub each : All IsMeasure measures

-- a next number that has a record
pub record IsNext (number : ℕ) : Type 0 where
  pub first : 1 ≤ number
  pub last : number ≤ 2 ^ 63

-- what has a record
abbrev pub IsIncoming : IncomingItem → Type 0
IsIncoming (Post number metric batch) = IsPost number metric.0 batch
IsIncoming (Next number) = IsNext number

-- Reading a record of the incoming log.
use Rattle.std.specs.Prelude.{ℕ, ◌-◌, ◌*◌, ◌^◌, List, Option, Some, None, Result, nat_lt, nat_le, ◌==◌, ◌&&◌, if◌then◌else◌, ℤ, unsigned_abs}
use Rattle.std.specs.Int.{w64}
use Rattle.series_model.specs.declared.measure.Measure.{Measure}
use Rattle.gno_codec.specs.declared.item.IncomingItem.{IncomingItem}
use Rattle.gno_codec.specs.declared.item.IncomingItem.TheVariants.{Post, Next}
use Rattle.gno_codec.specs.Reading.{Reading, ◌>>=◌, done, number_at, signed_at, tested, items_at, by_kind, whole}

-- a stamp
unfoldable pub stamp_at : Reading ℕ
stamp_at = tested (λ nanos. nat_lt nanos (9 * 10 ^ 18)) (number_at 8)

-- a value
unfoldable pub value_at : Reading ℤ
value_at = tested (λ units. nat_le (unsigned_abs units) (10 ^ 18)) (signed_at w64)

-- a stamp and a value
unfoldable pub measure_at : Reading Measure
measure_at = do
  stamp ← stamp_at
  value ← value_at
  done (record { at = stamp; value = value })

-- what follows the byte 1
unfoldable pub post_at : Reading IncomingItem
post_at = do
  number ← tested (λ n. nat_le 1 n && nat_le n (2 ^ 63 - 1)) (number_at 8)
  metric ← number_at 16
  count ← tested (λ n. nat_le n 50000) (number_at 4)
  measures ← items_at (λ _. measure_at) None count
  done (Post number (record { 0 = metric }) measures)

-- what follows the byte 2
unfoldable pub next_at : Reading IncomingItem
next_at = do
  number ← tested (λ n. nat_le 1 n && nat_le n (2 ^ 63)) (number_at 8)
  done (Next number)

-- by the first byte
unfoldable pub incoming_kinds : ℕ → Option (Reading IncomingItem)
incoming_kinds kind =
    if kind == 1 then Some post_at
    else (if kind == 2 then Some next_at
    else None)

-- a record that is all of the bytes, or the place of its fault
unfoldable pub incoming_of : List ℕ → Result IncomingItem ℕ
incoming_of bytes = whole (by_kind incoming_kinds) bytes

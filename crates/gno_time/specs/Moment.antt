-- Dates with a time of day and an offset.
use Rattle.std.specs.Prelude.{ℕ, ◌+◌, ◌*◌, ◌^◌, ◌<◌, nat_lt, if◌then◌else◌, Result, Ok, Err, ℤ, pos, negsuc, neg_ℤ, ◌+ℤ◌, ◌*ℤ◌}
use Rattle.jiff_core.specs.Calendar.{IsEpochDay}
use Rattle.gno_time.specs.declared.moment.Moment.{Moment}
use Rattle.gno_time.specs.declared.stamp.TimeFault.{TimeFault}
use Rattle.gno_time.specs.declared.stamp.TimeFault.TheVariants.{BeforeEpoch, TooLate}

-- a day of the calendar, a time of day, and an offset of less than a day
pub record IsMoment (m : Moment) : Type 0 where
  pub day : IsEpochDay m.day
  pub clock : m.clock < 86400
  pub nanos : m.nanos < 10 ^ 9
  pub offset : m.offset < 86400

-- the seconds from the epoch: a time west of Greenwich comes later in UTC
abbrev pub seconds_of : Moment → ℤ
seconds_of m =
    (m.day *ℤ pos 86400) +ℤ pos m.clock +ℤ (if m.is_west then pos m.offset else neg_ℤ (pos m.offset))

-- a stamp lies from the epoch on, and before 9,000,000,000 s
abbrev pub stamp_at : ℤ → ℕ → Result ℕ TimeFault
stamp_at (negsuc before) nanos = Err BeforeEpoch
stamp_at (pos seconds) nanos =
    if nat_lt seconds 9_000_000_000 then Ok (seconds * 10 ^ 9 + nanos) else Err TooLate

unfoldable pub stamp_of_moment : Moment → Result ℕ TimeFault
stamp_of_moment m = stamp_at (seconds_of m) m.nanos

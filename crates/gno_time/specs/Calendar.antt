-- The calendar, day by day.
use Rattle.std.specs.Prelude.{ℕ, zero, suc, ◌+◌, nat_lt, if◌then◌else◌, pos}
use Rattle.jiff_core.specs.Calendar.{days_in_month}

-- a date of the calendar
pub record CalendarDate : Type 0 where
  pub year : ℕ
  pub month : ℕ
  pub day : ℕ

-- the next day, the first of the next month, or the first of the next year
abbrev pub day_after : CalendarDate → CalendarDate
day_after date =
    if nat_lt date.day (days_in_month (pos date.year) date.month)
    then record { year = date.year; month = date.month; day = date.day + 1 }
    else (if nat_lt date.month 12
    then record { year = date.year; month = date.month + 1; day = 1 }
    else record { year = date.year + 1; month = 1; day = 1 })

-- the date so many days after 1 January 1970
unfoldable pub date_of_day : ℕ → CalendarDate
date_of_day zero = record { year = 1970; month = 1; day = 1 }
date_of_day (suc n) = day_after (date_of_day n)

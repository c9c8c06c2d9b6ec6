-- How a time is read, from the left.
use Rattle.std.specs.Prelude.{ℕ, ◌+◌, ◌*◌, ◌^◌, ◌==◌, nat_lt, nat_le, Bool, false, ◌&&◌, ◌||◌, if◌then◌else◌, List, [], ◌∷◌, ◌++◌, length, Option, None, Some, Result, Ok, Err, ℤ, pos}
use Rattle.jiff_core.specs.Calendar.{days_in_month, days_from_civil}
use Rattle.gno_num.specs.Digits.{begins_with, number_onto}
use Rattle.gno_num.specs.Number.{Number, numerator, denominator, nearest}
use Rattle.gno_num.specs.Reading.{number_of}
use Rattle.gno_time.specs.Fields.{◌>>=◌, number_at, field_at, nanos_at}
use Rattle.gno_time.specs.Moment.{stamp_of_moment}
use Rattle.gno_time.specs.declared.moment.Moment.{Moment}
use Rattle.gno_time.specs.declared.stamp.TimeFault.{TimeFault}
use Rattle.gno_time.specs.declared.stamp.TimeFault.TheVariants.{BadTime, BeforeEpoch, TooLate}

-- the calendar has this day
abbrev pub is_date : ℕ → ℕ → ℕ → Bool
is_date year month day =
    nat_le 1 month && (nat_le month 12 && (nat_le 1 day && nat_le day (days_in_month (pos year) month)))

-- `YYYY-MM-DD`, as a day number, and what follows
unfoldable pub date_at : List ℕ → Option (ℤ × List ℕ)
date_at text =
    number_at 4 9999 text >>= λ year. field_at 45 2 99 year.1 >>= λ month. field_at 45 2 99 month.1 >>= λ day. if is_date year.0 month.0 day.0 then Some (days_from_civil (pos year.0) month.0 day.0, day.1) else None

-- `:SS` and a fraction or none, or nothing: the second, the nanoseconds, and what follows
unfoldable pub second_at : List ℕ → Option (ℕ × ℕ × List ℕ)
second_at text =
    if begins_with 58 text
    then (field_at 58 2 59 text >>= λ second. nanos_at second.1 >>= λ nanos. Some (second.0, nanos.0, nanos.1))
    else Some (0, 0, text)

-- `HH:MM` and nothing else, in seconds
unfoldable pub hours_of : List ℕ → Option ℕ
hours_of text =
    number_at 2 23 text >>= λ hour. field_at 58 2 59 hour.1 >>= λ minute. if length minute.1 == 0 then Some (hour.0 * 3600 + minute.0 * 60) else None

-- `Z`, `z` or nothing, or a sign and hours: whether it lies west, and by how many seconds
unfoldable pub offset_of : List ℕ → Option (Bool × ℕ)
offset_of [] = Some (false, 0)
offset_of (c ∷ cs) =
    if (c == 43) || (c == 45)
    then (hours_of cs >>= λ seconds. Some (c == 45, seconds))
    else (if ((c == 90) || (c == 122)) && (length cs == 0) then Some (false, 0) else None)

-- `HH:MM`, a second or none, and an offset or none, on a day
unfoldable pub clock_of : ℤ → List ℕ → Option Moment
clock_of day text =
    number_at 2 23 text >>= λ hour. field_at 58 2 59 hour.1 >>= λ minute. second_at minute.1 >>= λ second. offset_of second.2 >>= λ offset. Some (record { day = day; clock = hour.0 * 3600 + minute.0 * 60 + second.0; nanos = second.1; is_west = offset.0; offset = offset.1 })

-- midnight, or `T` or a space and a time
unfoldable pub time_of : ℤ → List ℕ → Option Moment
time_of day [] = Some (record { day = day; clock = 0; nanos = 0; is_west = false; offset = 0 })
time_of day (c ∷ cs) = if (c == 84) || (c == 32) then clock_of day cs else None

-- a date and a time
unfoldable pub moment_of : List ℕ → Option Moment
moment_of text = date_at text >>= λ date. time_of date.0 date.1

-- seconds, rounded to the nearest nanosecond with ties up
unfoldable pub stamp_of_number : Number → Result ℕ TimeFault
stamp_of_number n =
    if n.negative && nat_lt 0 (number_onto 0 (n.whole ++ n.fraction)) then Err BeforeEpoch
    else (if nat_lt (nearest (numerator 9 n) (denominator n)) (9 * 10 ^ 18)
    then Ok (nearest (numerator 9 n) (denominator n))
    else Err TooLate)

abbrev pub stamp_of_either : Option Number → Option Moment → Result ℕ TimeFault
stamp_of_either (Some n) moment = stamp_of_number n
stamp_of_either None (Some m) = stamp_of_moment m
stamp_of_either None None = Err BadTime

-- a number token, or a date and a time
unfoldable pub stamp_read : List ℕ → Result ℕ TimeFault
stamp_read text =
    if nat_lt 64 (length text) then Err BadTime else stamp_of_either (number_of text) (moment_of text)

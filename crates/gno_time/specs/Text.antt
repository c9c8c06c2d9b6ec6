-- The printed forms of stamps and spans.
use Rattle.std.specs.Prelude.{ℕ, ◌/◌, ◌%◌, ◌^◌, ◌==◌, if◌then◌else◌, List, [], ◌∷◌, ◌++◌, codes}
use Rattle.std.specs.Fmt.{decimal}
use Rattle.gno_num.specs.Text.{padded, point_text}
use Rattle.gno_time.specs.Calendar.{CalendarDate, date_of_day}

-- `1970-01-01`
abbrev pub date_text : CalendarDate → List ℕ
date_text date = padded 4 date.year ++ 45 ∷ padded 2 date.month ++ 45 ∷ padded 2 date.day

-- `00:01:00`, of the seconds of a day
abbrev pub clock_text : ℕ → List ℕ
clock_text seconds =
    padded 2 (seconds / 3600) ++ 58 ∷ padded 2 (seconds / 60 % 60) ++ 58 ∷ padded 2 (seconds % 60)

-- a point and nine digits, where there is a fraction of a second
abbrev pub nanos_text : ℕ → List ℕ
nanos_text nanos = if nanos == 0 then [] else 46 ∷ padded 9 nanos

-- `1970-01-01T00:01:00+00:00`, of nanoseconds since the epoch
unfoldable pub stamp_text_of : ℕ → List ℕ
stamp_text_of nanos =
    let seconds = nanos / 10 ^ 9 in
    date_text (date_of_day (seconds / 86400)) ++ 84 ∷ clock_text (seconds % 86400)
    ++ nanos_text (nanos % 10 ^ 9) ++ codes "+00:00"

-- `60.0`, of nanoseconds
abbrev pub seconds_text_of : ℕ → List ℕ
seconds_text_of nanos = point_text 9 nanos

-- nothing, `1 day, ` or `2 days, `
abbrev pub days_text : ℕ → List ℕ
days_text days =
    if days == 0 then [] else decimal days ++ (if days == 1 then codes " day, " else codes " days, ")

-- `1 day, 0:00:00`, of nanoseconds
unfoldable pub span_text_of : ℕ → List ℕ
span_text_of nanos =
    let seconds = nanos / 10 ^ 9 in
    let clock = seconds % 86400 in
    days_text (seconds / 86400) ++ decimal (clock / 3600) ++ 58 ∷ padded 2 (clock / 60 % 60) ++ 58 ∷ padded 2 (clock % 60)
    ++ nanos_text (nanos % 10 ^ 9)

-- Units of time, in nanoseconds.
use Rattle.std.specs.Prelude.{ℕ, Bool, ◌||◌, if◌then◌else◌, List, Option, None, Some, codes}
use Rattle.std.specs.Str.{bytes_eq}

abbrev pub is_millisecond : List ℕ → Bool
is_millisecond text =
    bytes_eq text (codes "ms") || (bytes_eq text (codes "millisecond") || bytes_eq text (codes "milliseconds"))

abbrev pub is_second : List ℕ → Bool
is_second text =
    bytes_eq text (codes "s") || (bytes_eq text (codes "sec") || (bytes_eq text (codes "second") || bytes_eq text (codes "seconds")))

abbrev pub is_minute : List ℕ → Bool
is_minute text =
    bytes_eq text (codes "m") || (bytes_eq text (codes "min") || (bytes_eq text (codes "minute") || bytes_eq text (codes "minutes")))

abbrev pub is_hour : List ℕ → Bool
is_hour text =
    bytes_eq text (codes "h") || (bytes_eq text (codes "hour") || bytes_eq text (codes "hours"))

abbrev pub is_day : List ℕ → Bool
is_day text =
    bytes_eq text (codes "d") || (bytes_eq text (codes "day") || bytes_eq text (codes "days"))

abbrev pub is_week : List ℕ → Bool
is_week text =
    bytes_eq text (codes "w") || (bytes_eq text (codes "week") || bytes_eq text (codes "weeks"))

-- how many nanoseconds a unit has
unfoldable pub unit_of : List ℕ → Option ℕ
unit_of text =
    if is_millisecond text then Some 1_000_000 else (if is_second text then Some 1_000_000_000
    else (if is_minute text then Some 60_000_000_000 else (if is_hour text then Some 3_600_000_000_000
    else (if is_day text then Some 86_400_000_000_000 else (if is_week text then Some 604_800_000_000_000
    else None)))))

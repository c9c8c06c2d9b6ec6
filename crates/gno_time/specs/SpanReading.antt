-- How a length of time is read, from the left.
use Rattle.std.specs.Prelude.{ℕ, ◌+◌, ◌*◌, ◌/◌, ◌%◌, ◌^◌, ◌==◌, nat_lt, nat_le, ◌&&◌, if◌then◌else◌, List, [], ◌∷◌, ◌++◌, length, Option, None, Some, Result, Ok, Err, codes}
use Rattle.gno_num.specs.Digits.{digits_front, digits_back, begins_with, without_front, number_onto}
use Rattle.gno_num.specs.Number.{Number, numerator, denominator}
use Rattle.gno_num.specs.Reading.{number_of, fraction_at}
use Rattle.gno_time.specs.Fields.{◌>>=◌, number_at, field_at, nanos_at}
use Rattle.gno_time.specs.Units.{unit_of}
use Rattle.gno_time.specs.declared.span.SpanFault.{SpanFault}
use Rattle.gno_time.specs.declared.span.SpanFault.TheVariants.{BadSpan, SpanRange}

-- nanoseconds from a millisecond to 9,000,000,000 s
unfoldable pub span_in_range : ℕ → Result ℕ SpanFault
span_in_range nanos =
    if nat_le (10 ^ 6) nanos && nat_le nanos (9 * 10 ^ 18) then Ok nanos else Err SpanRange

-- a quotient that is a whole number of nanoseconds
unfoldable pub span_of : ℕ → ℕ → Result ℕ SpanFault
span_of num den = if num % den == 0 then span_in_range (num / den) else Err BadSpan

-- seconds, not below zero
unfoldable pub span_of_number : Number → Result ℕ SpanFault
span_of_number n = if n.negative then Err BadSpan else span_of (numerator 9 n) (denominator n)

-- the text without spaces in front
abbrev pub without_spaces : List ℕ → List ℕ
without_spaces [] = []
without_spaces (c ∷ cs) = if c == 32 then without_spaces cs else c ∷ cs

-- so many units, of digits before and behind a point
abbrev pub span_of_units : List ℕ → List ℕ → ℕ → Result ℕ SpanFault
span_of_units whole fraction unit =
    span_of (number_onto 0 (whole ++ fraction) * unit) (10 ^ length fraction)

-- digits with a point or none, of at most 64 bytes, spaces, and a unit
unfoldable pub amount_of : List ℕ → Option (Result ℕ SpanFault)
amount_of text =
    if nat_lt 0 (length (digits_front text))
    then (fraction_at (digits_back text) >>= λ fraction. if nat_le (length text) (64 + length fraction.1) then (unit_of (without_spaces fraction.1) >>= λ unit. Some (span_of_units (digits_front text) fraction.0 unit)) else None)
    else None

-- what follows these bytes
unfoldable pub after : List ℕ → List ℕ → Option (List ℕ)
after [] text = Some text
after (b ∷ bs) text = if begins_with b text then after bs (without_front b text) else None

-- what follows `day, ` or `days, `
unfoldable pub behind_days : List ℕ → Option (List ℕ)
behind_days text = after (codes "day") text >>= λ rest. after (codes ", ") (without_front 115 rest)

-- the days in front, if there are any, and what follows
unfoldable pub days_at : List ℕ → Option (ℕ × List ℕ)
days_at text =
    if nat_lt 0 (length (digits_front text)) && begins_with 32 (digits_back text)
    then (behind_days (without_front 32 (digits_back text)) >>= λ rest. Some (number_onto 0 (digits_front text), rest))
    else Some (0, text)

-- an hour of one digit or two
unfoldable pub hour_at : List ℕ → Option (ℕ × List ℕ)
hour_at text =
    if length (digits_front text) == 1 then number_at 1 23 text else number_at 2 23 text

-- hours, `:MM`, `:SS` and a fraction or none, and nothing else: seconds and nanoseconds
unfoldable pub clock_of : List ℕ → Option (ℕ × ℕ)
clock_of text =
    hour_at text >>= λ hour. field_at 58 2 59 hour.1 >>= λ minute. field_at 58 2 59 minute.1 >>= λ second. nanos_at second.1 >>= λ nanos. if length nanos.1 == 0 then Some (hour.0 * 3600 + minute.0 * 60 + second.0, nanos.0) else None

-- days or none, and a time
unfoldable pub days_and_clock_of : List ℕ → Option (Result ℕ SpanFault)
days_and_clock_of text =
    days_at text >>= λ days. clock_of days.1 >>= λ clock. Some (span_in_range ((days.0 * 86400 + clock.0) * 10 ^ 9 + clock.1))

abbrev pub span_of_any : Option (Result ℕ SpanFault) → Option (Result ℕ SpanFault) → Result ℕ SpanFault
span_of_any (Some span) other = span
span_of_any None (Some span) = span
span_of_any None None = Err BadSpan

abbrev pub span_of_token : List ℕ → Option Number → Result ℕ SpanFault
span_of_token text (Some n) = span_of_number n
span_of_token text None = span_of_any (amount_of text) (days_and_clock_of text)

-- a number token of at most 64 bytes, an amount of units, or days and a time
unfoldable pub span_read : List ℕ → Result ℕ SpanFault
span_read text =
    if nat_lt 64 (length text)
    then span_of_any (amount_of text) (days_and_clock_of text)
    else span_of_token text (number_of text)

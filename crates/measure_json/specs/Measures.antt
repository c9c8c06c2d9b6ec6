-- How a list of measures is read, from the left.
use Rattle.std.specs.Prelude.{ℕ, ℤ, ◌==◌, Bool, true, false, if◌then◌else◌, List, [], ◌∷◌, Option, None, Some, Result, Ok, Err, codes}
use Rattle.std.specs.Str.{bytes_eq}
use Rattle.gno_num.specs.Digits.{begins_with, without_front}
use Rattle.gno_num.specs.Value.{value_read}
use Rattle.gno_num.specs.declared.read.NumFault.{NumFault}
use Rattle.gno_time.specs.StampReading.{stamp_read}
use Rattle.gno_time.specs.declared.stamp.TimeFault.{TimeFault}
use Rattle.series_model.specs.declared.measure.Measure.{Measure}
use Rattle.measure_json.specs.declared.fault.JsonKind.TheVariants.{NotMeasure, Time, Number, TooMany}
use Rattle.measure_json.specs.declared.fault.Fault.{Fault}
use Rattle.measure_json.specs.declared.measures.Key.{Key}
use Rattle.measure_json.specs.declared.measures.Key.TheVariants as keys
use Rattle.measure_json.specs.Fault.{◌>>=◌, fault_at, syntax, Placed, placed}
use Rattle.measure_json.specs.Marks.{skip_blank, mark_at, begins_number, other_value, opened, colon_at, next_at, ended}
use Rattle.measure_json.specs.Items.{items_within}
use Rattle.measure_json.specs.Number.{number_at}
use Rattle.measure_json.specs.Text.{string_at}

-- the text of a string or the token of a number, and what follows it
unfoldable pub scalar_at : List ℕ → Result (List ℕ × List ℕ) Fault
scalar_at [] = syntax []
scalar_at (c ∷ cs) =
    if c == 34 then string_at cs else (if begins_number c then number_at (c ∷ cs) else other_value (c ∷ cs))

abbrev pub judged_time : List ℕ → Result ℕ TimeFault → List ℕ → Result (ℕ × List ℕ) Fault
judged_time place (Ok stamp) rest = Ok (stamp, rest)
judged_time place (Err fault) rest = Err (fault_at (Time fault) place)

-- a time, and what follows it
unfoldable pub time_at : List ℕ → Result (ℕ × List ℕ) Fault
time_at text = scalar_at text >>= λ found. judged_time text (stamp_read found.0) found.1

abbrev pub judged_value : List ℕ → Result ℤ NumFault → List ℕ → Result (ℤ × List ℕ) Fault
judged_value place (Ok value) rest = Ok (value, rest)
judged_value place (Err fault) rest = Err (fault_at (Number fault) place)

-- a value, and what follows it
unfoldable pub value_at : List ℕ → Result (ℤ × List ℕ) Fault
value_at text = scalar_at text >>= λ found. judged_value text (value_read found.0) found.1

-- the key of this name
abbrev pub key_of : List ℕ → Option Key
key_of name =
    if bytes_eq name (codes "timestamp") then Some keys.Timestamp
    else (if bytes_eq name (codes "value") then Some keys.Value else None)

abbrev pub named : List ℕ → Option Key → List ℕ → Result (Key × List ℕ) Fault
named place None rest = Err (fault_at NotMeasure place)
named place (Some key) rest = Ok (key, rest)

-- one of the two keys, and what follows it
unfoldable pub key_at : List ℕ → Result (Key × List ℕ) Fault
key_at text =
    mark_at 34 text >>= λ inside. string_at inside >>= λ found. named text (key_of found.0) found.1

abbrev pub first_key : List ℕ → Result (Key × List ℕ) Fault
first_key [] = syntax []
first_key (c ∷ cs) = if c == 125 then Err (fault_at NotMeasure (c ∷ cs)) else key_at (c ∷ cs)

-- the first key, behind the opening brace
unfoldable pub first_key_at : List ℕ → Result (Key × List ℕ) Fault
first_key_at text = first_key (skip_blank text)

-- whether the two are the same key
abbrev pub same_key : Key → Key → Bool
same_key keys.Timestamp keys.Timestamp = true
same_key keys.Timestamp keys.Value = false
same_key keys.Value keys.Timestamp = false
same_key keys.Value keys.Value = true

-- what follows this key, which has to stand here
unfoldable pub wanted_key_at : Key → List ℕ → Result (List ℕ) Fault
wanted_key_at wanted text =
    key_at text >>= λ found. if same_key wanted found.0 then Ok found.1 else Err (fault_at NotMeasure text)

-- what follows the second key, behind the first member
unfoldable pub second_key_at : Key → List ℕ → Result (List ℕ) Fault
second_key_at wanted text =
    next_at 125 text >>= λ next. if next.0 then wanted_key_at wanted next.1 else Err (fault_at NotMeasure (skip_blank text))

-- a third member: once its key has ended, it is one too many
unfoldable pub third_key_at : List ℕ → Result (List ℕ) Fault
third_key_at text =
    mark_at 34 text >>= λ inside. string_at inside >>= λ found. Err (fault_at NotMeasure text)

-- what follows the closing brace, behind the second member
unfoldable pub close_at : List ℕ → Result (List ℕ) Fault
close_at text = next_at 125 text >>= λ next. if next.0 then third_key_at next.1 else Ok next.1

-- the time, with the colon before it
unfoldable pub time_member_at : List ℕ → Result (ℕ × List ℕ) Fault
time_member_at text = colon_at text >>= λ rest. time_at rest

-- the value, with the colon before it
unfoldable pub value_member_at : List ℕ → Result (ℤ × List ℕ) Fault
value_member_at text = colon_at text >>= λ rest. value_at rest

-- the members, behind the first key, which is the time's
unfoldable pub time_first : List ℕ → Result (Measure × List ℕ) Fault
time_first text =
    time_member_at text >>= λ time. second_key_at keys.Value time.1 >>= λ second. value_member_at second >>= λ value. close_at value.1 >>= λ rest. Ok (record { at = time.0; value = value.0 }, rest)

-- the same, where it is the value's
unfoldable pub value_first : List ℕ → Result (Measure × List ℕ) Fault
value_first text =
    value_member_at text >>= λ value. second_key_at keys.Timestamp value.1 >>= λ second. time_member_at second >>= λ time. close_at time.1 >>= λ rest. Ok (record { at = time.0; value = value.0 }, rest)

abbrev pub members_at : Key → List ℕ → Result (Measure × List ℕ) Fault
members_at keys.Timestamp text = time_first text
members_at keys.Value text = value_first text

-- a measure, and what follows it
unfoldable pub measure_at : List ℕ → Result (Measure × List ℕ) Fault
measure_at text =
    opened 123 text >>= λ inside. first_key_at inside >>= λ first. members_at first.0 first.1

-- a measure where so many stand already
abbrev pub one_too_many : List ℕ → Result (List Measure × List ℕ) Fault
one_too_many text = opened 123 text >>= λ inside. Err (fault_at TooMany text)

-- one measure or more, but at most so many, up to the closing bracket
abbrev pub measures_within : ℕ → List ℕ → Result (List Measure × List ℕ) Fault
measures_within most text = items_within measure_at 93 one_too_many most text

-- the measures of a list, behind its opening bracket
abbrev pub items_at : List ℕ → Result (List Measure × List ℕ) Fault
items_at text = if begins_with 93 text then Ok ([], without_front 93 text) else measures_within 50000 text

-- a list of at most 50,000 measures, and what follows it
unfoldable pub measures_at : List ℕ → Result (List Measure × List ℕ) Fault
measures_at text = opened 91 text >>= λ inside. items_at (skip_blank inside)

-- the measures of a whole text
unfoldable pub measures_of : List ℕ → Result (List Measure) Fault
measures_of text = measures_at (skip_blank text) >>= λ found. ended found.0 (skip_blank found.1)

-- what a body of measures means: the measures, or the first fault from the left
unfoldable pub measures_read : List ℕ → Result (List Measure) Placed
measures_read body = placed body (measures_of body)

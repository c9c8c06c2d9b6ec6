-- What the values in a body read as.
use Rattle.std.specs.Prelude.{ℕ, ◌*◌, ◌^◌, nat_le, Bool, true, false, not, ◌&&◌, ◌==◌, if◌then◌else◌, List, [], ◌∷◌, length, Option, Some, None, option_map, option_and_then, Result, Ok, Err}
use Rattle.std.specs.Borrow.{Bor}
use Rattle.std.specs.Int.{w128, from_be_bytes}
use Rattle.std.specs.List.{find, list_all}
use Rattle.std.specs.Str.{bytes_eq}
use Rattle.uuid.specs.Text.{parsed}
use Rattle.archive_policy.specs.declared.kind.Kind.{Kind}
use Rattle.archive_policy.specs.Kinds.{all_kinds, kind_name}
use Rattle.gno_time.specs.declared.span.SpanFault.{SpanFault}
use Rattle.gno_time.specs.SpanReading.{span_in_range, span_read}
use Rattle.serde_json.specs.Data.{Data, null, boolean, number, string, array, object, Items, no_items, item}
use Rattle.serde_json.specs.View.{view}
use Rattle.serde_json.specs.declared.value.Value.{Value}
use Rattle.serde_json.specs.Find.{as_array, as_number, as_str, as_u64}
use Rattle.control_docs.specs.declared.fault.ControlBodyFault.{ControlBodyFault}
use Rattle.control_docs.specs.declared.fault.ControlBodyFault.TheVariants.{BadName, BadSpan, BadAggregation}
use Rattle.control_docs.specs.Fault.{◌>>=◌, found_or, told_span}

-- what stands at a key, where something does
abbrev pub value_seen : Option (Bor Value) → Option Data
value_seen value = option_map (λ (v : Bor Value). view v.now) value

-- ---- names

-- a byte may stand in a name: a printable one of ASCII other than `/`
abbrev pub may_be_named : ℕ → Bool
may_be_named byte = nat_le 32 byte && (nat_le byte 126 && not (byte == 47))

-- 1 to 255 of them
abbrev pub may_be_name : List ℕ → Bool
may_be_name text = nat_le 1 (length text) && (nat_le (length text) 255 && list_all may_be_named text)

-- the text, if it is a name
abbrev pub text_name : List ℕ → Result (List ℕ) ControlBodyFault
text_name text = if may_be_name text then Ok text else Err BadName

-- the text of a value, if it is a name
abbrev pub value_name : Data → Result (List ℕ) ControlBodyFault
value_name d = found_or BadName (as_str d) >>= text_name

-- a name that has to be there
abbrev pub required_name : Option Data → Result (List ℕ) ControlBodyFault
required_name value = found_or BadName value >>= value_name

-- a name that may be absent
abbrev pub name_or_none : Option Data → Result (Option (List ℕ)) ControlBodyFault
name_or_none None = Ok None
name_or_none (Some d) = value_name d >>= λ name. Ok (Some name)

-- what stands there, null being nothing
abbrev pub unless_null : Option Data → Option Data
unless_null None = None
unless_null (Some null) = None
unless_null (Some d) = Some d

-- something other than null stands there
abbrev pub is_given : Option Data → Bool
is_given value = is_some_of (unless_null value)
  where
    is_some_of : Option Data → Bool
    is_some_of None = false
    is_some_of (Some d) = true

-- ---- identifiers and whole numbers

-- the identifier that a text is in any of the forms of UUIDs, as a number
abbrev pub as_id : List ℕ → Option ℕ
as_id text = option_map (λ bytes. from_be_bytes w128 bytes) (parsed text)

-- the identifier that a value is
abbrev pub value_id : Data → Option ℕ
value_id d = option_and_then as_id (as_str d)

-- the whole number that a value is
abbrev pub value_whole : Data → Option ℕ
value_whole d = option_and_then as_u64 (as_number d)

-- ---- spans

-- nanoseconds, or why they are none
abbrev pub told : Result ℕ SpanFault → Result ℕ ControlBodyFault
told (Ok nanos) = Ok nanos
told (Err fault) = Err (told_span fault)

-- so many seconds, where there are so many
abbrev pub span_of_seconds : Option ℕ → Result ℕ ControlBodyFault
span_of_seconds None = Err BadSpan
span_of_seconds (Some seconds) = told (span_in_range (seconds * 10 ^ 9))

-- a text of a span, or a whole number of seconds
abbrev pub value_span : Data → Result ℕ ControlBodyFault
value_span null = Err BadSpan
value_span (boolean b) = Err BadSpan
value_span (number n) = span_of_seconds (as_u64 n)
value_span (string text) = told (span_read text)
value_span (array ds) = Err BadSpan
value_span (object ms) = Err BadSpan

-- a span that may be absent
abbrev pub span_or_none : Option Data → Result (Option ℕ) ControlBodyFault
span_or_none None = Ok None
span_or_none (Some d) = value_span d >>= λ span. Ok (Some span)

-- ---- aggregation methods

-- the kind with this name, if there is one
abbrev pub kind_named : List ℕ → Option Kind
kind_named name = find (λ kind. bytes_eq name (kind_name kind)) all_kinds

-- the kind that a value names
abbrev pub value_kind : Data → Result Kind ControlBodyFault
value_kind d = found_or BadAggregation (option_and_then kind_named (as_str d))

-- ---- lists

-- what is read first, and what follows
abbrev pub with_first : {A : Type 0} → A → List A → Result (List A) ControlBodyFault
with_first x xs = Ok (x ∷ xs)

-- each item read, from the left
abbrev pub all_of : {A : Type 0} → (Data → Result A ControlBodyFault) → Items → Result (List A) ControlBodyFault
all_of read no_items = Ok []
all_of read (item d ds) = read d >>= λ x. all_of read ds >>= with_first x

-- the items of a list that stands there
abbrev pub listed_items : Option Data → Items
listed_items None = no_items
listed_items (Some d) = items_or_none (as_array d)
  where
    items_or_none : Option Items → Items
    items_or_none None = no_items
    items_or_none (Some ds) = ds

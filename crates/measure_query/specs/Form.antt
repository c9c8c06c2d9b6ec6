-- What the values of a query read as.
use Rattle.std.specs.Prelude.{ℕ, Bool, true, false, ◌||◌, if◌then◌else◌, List, Option, Some, None, is_some, codes}
use Rattle.std.specs.List.{find}
use Rattle.std.specs.Result.{result_ok}
use Rattle.std.specs.Str.{bytes_eq}
use Rattle.archive_policy.specs.declared.kind.Kind.{Kind}
use Rattle.archive_policy.specs.Kinds.{all_kinds, kind_name}
use Rattle.gno_time.specs.SpanReading.{span_read}
use Rattle.gno_time.specs.StampReading.{stamp_read}
use Rattle.measure_query.specs.declared.key.Key.{Key}
use Rattle.measure_query.specs.declared.key.Key.TheVariants.{Start, Stop, Aggregation, Granularity, Refresh, Exact}

-- the time that a value spells, in nanoseconds
abbrev pub time_of : List ℕ → Option ℕ
time_of value = result_ok (stamp_read value)

-- the length of time that a value spells, in nanoseconds
abbrev pub span_of : List ℕ → Option ℕ
span_of value = result_ok (span_read value)

-- the kind with this name, if there is one
abbrev pub kind_of : List ℕ → Option Kind
kind_of name = find (λ kind. bytes_eq name (kind_name kind)) all_kinds

-- yes or no
abbrev pub switch_of : List ℕ → Option Bool
switch_of value =
    if bytes_eq value (codes "true") || bytes_eq value (codes "1") then Some true
    else (if bytes_eq value (codes "false") || bytes_eq value (codes "0") then Some false else None)

-- a value is of the form of its key; any text names an aggregation
abbrev pub has_form : Key → List ℕ → Bool
has_form Start value = is_some (time_of value)
has_form Stop value = is_some (time_of value)
has_form Aggregation value = true
has_form Granularity value = is_some (span_of value)
has_form Refresh value = is_some (switch_of value)
has_form Exact value = is_some (switch_of value)

-- How a body of several metrics is read, from the left.
use Rattle.std.specs.Prelude.{ℕ, if◌then◌else◌, List, [], length, Option, None, Some, option_map, Result, Ok, Err}
use Rattle.std.specs.Int.{w128, from_be_bytes}
use Rattle.uuid.specs.Text.{parsed}
use Rattle.gno_num.specs.Digits.{begins_with, without_front}
use Rattle.series_model.specs.declared.measure.Measure.{Measure}
use Rattle.series_model.specs.declared.metric.MetricId.{MetricId}
use Rattle.measure_json.specs.declared.fault.JsonKind.TheVariants.{BadId}
use Rattle.measure_json.specs.declared.fault.Fault.{Fault}
use Rattle.measure_json.specs.Fault.{◌>>=◌, fault_at, syntax, Placed, placed}
use Rattle.measure_json.specs.Marks.{skip_blank, mark_at, opened, colon_at, ended}
use Rattle.measure_json.specs.Items.{items_within}
use Rattle.measure_json.specs.Text.{string_at}
use Rattle.measure_json.specs.Measures.{measures_at}

-- the identifier of a text, in any of the forms of UUIDs
abbrev pub id_of : List ℕ → Option MetricId
id_of text = option_map (λ bytes. record { 0 = from_be_bytes w128 bytes }) (parsed text)

abbrev pub identified : List ℕ → Option MetricId → List ℕ → Result (MetricId × List ℕ) Fault
identified place None rest = Err (fault_at BadId place)
identified place (Some id) rest = Ok (id, rest)

-- an identifier as a string, and what follows it
unfoldable pub id_at : List ℕ → Result (MetricId × List ℕ) Fault
id_at text =
    mark_at 34 text >>= λ inside. string_at inside >>= λ found. identified text (id_of found.0) found.1

-- an identifier and its measures, and what follows them
unfoldable pub entry_at : List ℕ → Result ((MetricId × List Measure) × List ℕ) Fault
entry_at text =
    id_at text >>= λ id. colon_at id.1 >>= λ rest. measures_at rest >>= λ found. Ok ((id.0, found.0), found.1)

-- the text has ended
abbrev pub runs_out : List ℕ → Result (List (MetricId × List Measure) × List ℕ) Fault
runs_out text = syntax []

-- the entries of an object, behind its opening brace; there are fewer of them than bytes
abbrev pub entries_from : List ℕ → Result (List (MetricId × List Measure) × List ℕ) Fault
entries_from text =
    if begins_with 125 text then Ok ([], without_front 125 text)
    else items_within entry_at 125 runs_out (length text) text

-- an object of entries, and what follows it
unfoldable pub entries_at : List ℕ → Result (List (MetricId × List Measure) × List ℕ) Fault
entries_at text = opened 123 text >>= λ inside. entries_from (skip_blank inside)

-- the entries of a whole text
unfoldable pub entries_of : List ℕ → Result (List (MetricId × List Measure)) Fault
entries_of text = entries_at (skip_blank text) >>= λ found. ended found.0 (skip_blank found.1)

-- what a body of several metrics means: the entries in the order of the text, or the first fault from the left
unfoldable pub batch_read : List ℕ → Result (List (MetricId × List Measure)) Placed
batch_read body = placed body (entries_of body)

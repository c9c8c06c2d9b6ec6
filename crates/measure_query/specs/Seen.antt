-- What was seen of a query so far.
use Rattle.std.specs.Prelude.{◌≡◌, ℕ, List, map, Option, Some, All}
use Rattle.std.specs.Option.{option_to_list}
use Rattle.measure_query.specs.declared.key.Key.TheVariants.{Start, Stop, Aggregation, Granularity, Refresh, Exact}
use Rattle.measure_query.specs.declared.seen.Seen.{Seen}
use Rattle.measure_query.specs.Form.{time_of, span_of, kind_of, switch_of}
use Rattle.measure_query.specs.Key.{Pair, IsKeyName, values_of}

-- the values read as what was seen, which is one reading or none
abbrev pub ReadsAs : {A : Type 0} → (List ℕ → Option A) → List (List ℕ) → Option A → Type 0
ReadsAs read values seen = map read values ≡ map Some (option_to_list seen)

-- the pairs so far have keys for names, and for each key the one value that was seen, or none
pub record IsSeen (pairs : List Pair) (seen : Seen) : Type 0 where
  pub keys : All (λ (pair : Pair). IsKeyName pair.0) pairs
  pub start : ReadsAs time_of (values_of Start pairs) seen.start
  pub stop : ReadsAs time_of (values_of Stop pairs) seen.stop
  pub kind : ReadsAs (λ name. Some (kind_of name)) (values_of Aggregation pairs) seen.kind
  pub granularity : ReadsAs span_of (values_of Granularity pairs) seen.granularity
  pub refresh : ReadsAs switch_of (values_of Refresh pairs) seen.refresh
  pub exact : ReadsAs switch_of (values_of Exact pairs) seen.exact

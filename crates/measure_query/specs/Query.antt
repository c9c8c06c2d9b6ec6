-- What the pairs of a query ask for.
use Rattle.std.specs.Prelude.{◌≡◌, ◌≢◌, ℕ, ◌≤◌, false, List, [], ◌∷◌, length, Option, Some, None, All}
use Rattle.std.specs.List.{Contains}
use Rattle.std.specs.Option.{option_map}
use Rattle.archive_policy.specs.declared.kind.Kind.TheVariants.{Mean}
use Rattle.measure_query.specs.declared.key.Key.{Key}
use Rattle.measure_query.specs.declared.key.Key.TheVariants.{Start, Stop, Aggregation, Granularity, Refresh, Exact}
use Rattle.measure_query.specs.declared.query.Asked.{Asked}
use Rattle.measure_query.specs.Form.{time_of, span_of, kind_of, switch_of, has_form}
use Rattle.measure_query.specs.Key.{Pair, IsKeyName, key_name, values_of}

-- what the values of a key come to: the default where there is none, what the only one reads as;
-- two are too many
abbrev pub reading_of : {A : Type 0} → (List ℕ → Option A) → A → List (List ℕ) → Option A
reading_of read default [] = Some default
reading_of read default (value ∷ []) = read value
reading_of read default (value ∷ next ∷ values) = None

-- a reading of what may be left out
abbrev pub some_of : {A : Type 0} → (List ℕ → Option A) → List ℕ → Option (Option A)
some_of read value = option_map Some (read value)

-- The pairs ask for this: each name is that of a key, and each member is what the only value for its
-- key reads as, or its default where there is no value.
pub record IsAsked (pairs : List Pair) (asked : Asked) : Type 0 where
  pub keys : All (λ (pair : Pair). IsKeyName pair.0) pairs
  pub start : reading_of (some_of time_of) None (values_of Start pairs) ≡ Some asked.query.start
  pub stop : reading_of (some_of time_of) None (values_of Stop pairs) ≡ Some asked.query.stop
  pub kind : reading_of (λ name. Some (kind_of name)) (Some Mean) (values_of Aggregation pairs) ≡ Some asked.query.kind
  pub granularity : reading_of (some_of span_of) None (values_of Granularity pairs) ≡ Some asked.query.granularity
  pub refresh : reading_of switch_of false (values_of Refresh pairs) ≡ Some asked.refresh
  pub exact : reading_of switch_of false (values_of Exact pairs) ≡ Some asked.exact

-- the mean of everything, at each granularity, as it stands
abbrev pub everything : Asked
everything = record {
  query = record { start = None; stop = None; kind = Some Mean; granularity = None };
  refresh = false;
  exact = false;
}

-- The pairs are no query: another name stands there, a key stands there twice, or a value isn't of
-- the form of its key.
pub data IsNoQuery (pairs : List Pair) : Type 0 where
  another : (name value : List ℕ) → Contains pairs (name, value) → ((key : Key) → name ≢ key_name key) → IsNoQuery pairs
  twice : (key : Key) → 2 ≤ length (values_of key pairs) → IsNoQuery pairs
  malformed : (key : Key) (value : List ℕ) → Contains pairs (key_name key, value) → has_form key value ≡ false → IsNoQuery pairs

-- The keys of a query, and the values that stand for them.
use Rattle.std.specs.Prelude.{◌≡◌, ℕ, List, map, codes}
use Rattle.std.specs.List.{filter}
use Rattle.std.specs.Str.{bytes_eq}
use Rattle.std.specs.Str.Lossy.{utf8_lossy}
use Rattle.form_urlencoded.specs.Form.{raw_pairs, decode}
use Rattle.measure_query.specs.declared.key.Key.{Key}
use Rattle.measure_query.specs.declared.key.Key.TheVariants.{Start, Stop, Aggregation, Granularity, Refresh, Exact}

-- a name and a value
abbrev pub Pair : Type 0
Pair = List ℕ × List ℕ

-- the text that a name or a value of a form stands for
abbrev pub decoded : List ℕ → List ℕ
decoded bytes = utf8_lossy (decode bytes)

-- the names and values of a query, decoded, in its order
abbrev pub pairs_of : List ℕ → List Pair
pairs_of text = map (λ (pair : Pair). (decoded pair.0, decoded pair.1)) (raw_pairs text)

-- the name of a key
abbrev pub key_name : Key → List ℕ
key_name Start = codes "start"
key_name Stop = codes "stop"
key_name Aggregation = codes "aggregation"
key_name Granularity = codes "granularity"
key_name Refresh = codes "refresh"
key_name Exact = codes "exact"

-- the name is that of a key
abbrev pub IsKeyName : List ℕ → Type 0
IsKeyName name = (key : Key) × (name ≡ key_name key)

-- the values that stand for a key, in order
abbrev pub values_of : Key → List Pair → List (List ℕ)
values_of key pairs = map (λ (pair : Pair). pair.1) (filter (λ (pair : Pair). bytes_eq pair.0 (key_name key)) pairs)

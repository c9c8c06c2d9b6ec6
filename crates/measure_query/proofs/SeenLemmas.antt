-- What was seen so far, and one pair more.
use Rattle.std.proofs.Common.{◌≡◌, ℕ, ◌≤◌, ◌⊎◌, Bool, false, cond, List, [], ◌∷◌, ◌++◌, map, length, Option, Some, None, refl, sym, ap, ◌∙◌, ◌<◌, take, drop, get_or, suc, arith, take-append-drop, drop-cons, append-nil, length-append, IsSome}
use Rattle.std.specs.Prelude.{unwrap_or}
use Rattle.std.specs.List.{All}
use Rattle.std.specs.Option.{option_map, option_to_list}
use Rattle.std.specs.Str.{bytes_eq}
use Rattle.std.proofs.Math.Logic.{⊎_elim}
use Rattle.std.proofs.lemmas.List.{length-map, map-append}
use Rattle.std.proofs.lemmas.List.Elements.{All-push, Contains-append_right}
use Rattle.series_model.proofs.Members.{Contains-here}
use Rattle.std.specs.Borrow.{Bor}
use Rattle.form_urlencoded.specs.Form.{pair_text, raw_pairs}
use Rattle.archive_policy.specs.declared.kind.Kind.{Kind}
use Rattle.archive_policy.specs.declared.kind.Kind.TheVariants.{Mean}
use Rattle.measure_query.specs.declared.key.Key.{Key}
use Rattle.measure_query.specs.declared.key.Key.TheVariants.{Start, Stop, Aggregation, Granularity, Refresh, Exact}
use Rattle.measure_query.specs.declared.query.Asked.{Asked}
use Rattle.measure_query.specs.declared.seen.Seen.{Seen}
use Rattle.measure_query.specs.Form.{time_of, span_of, kind_of, switch_of, has_form}
use Rattle.measure_query.specs.Key.{Pair, IsKeyName, decoded, key_name, pairs_of, values_of}
use Rattle.measure_query.specs.Query.{IsAsked, IsNoQuery, twice, malformed, reading_of, some_of}
use Rattle.measure_query.specs.Seen.{IsSeen, ReadsAs}
use Rattle.measure_query.proofs.KeyLemmas.{own_name, value_in, values_of-append, values_of-more, values_of-own}

-- the pair of a key, behind others
abbrev pub with_pair : Key → List ℕ → List Pair → List Pair
with_pair key value pairs = pairs ++ (key_name key, value) ∷ []

pub keys-more : (key : Key) (value : List ℕ) (pairs : List Pair) → All (λ (pair : Pair). IsKeyName pair.0) pairs → All (λ (pair : Pair). IsKeyName pair.0) (with_pair key value pairs)
keys-more key value pairs all = All-push (λ (pair : Pair). IsKeyName pair.0) pairs (key_name key, value) all (key, refl)

-- the first value of a key
pub own : {A : Type 0} (read : List ℕ → Option A) (key : Key) (value : List ℕ) (pairs : List Pair) (old new : Option A) → ReadsAs read (values_of key pairs) old → old ≡ None → new ≡ read value → IsSome new → ReadsAs read (values_of key (with_pair key value pairs)) new
own {A} read key value pairs old new was none is some =
    ap (map read) (values_of-more key pairs (key_name key, value))
    ∙ map-append read (values_of key pairs) (value_in key (key_name key, value))
    ∙ ap (λ xs. xs ++ map read (value_in key (key_name key, value))) (was ∙ ap (λ o. map Some (option_to_list o)) none)
    ∙ ap (λ b. map read (cond b (value ∷ []) [])) (own_name key)
    ∙ ap (λ o. o ∷ []) (sym is)
    ∙ one new some
  where
    one : (o : Option A) → IsSome o → o ∷ [] ≡ map Some (option_to_list o)
    one (Some x) some = refl
    one None some = cc

-- a value of another key
pub other : {A : Type 0} (read : List ℕ → Option A) (key taken : Key) (value : List ℕ) (pairs : List Pair) (seen : Option A) → bytes_eq (key_name taken) (key_name key) ≡ false → ReadsAs read (values_of key pairs) seen → ReadsAs read (values_of key (with_pair taken value pairs)) seen
other read key taken value pairs seen apart was =
    ap (map read) (values_of-more key pairs (key_name taken, value) ∙ ap (λ b. values_of key pairs ++ cond b (value ∷ []) []) apart ∙ append-nil (values_of key pairs))
    ∙ was

-- ---- one pair more, key by key

pub taken_start : (value : List ℕ) (pairs : List Pair) (seen : Seen) (new : Option ℕ) → IsSeen pairs seen → seen.start ≡ None → new ≡ time_of value → IsSome new → IsSeen (with_pair Start value pairs) (record seen { start = new })
taken_start value pairs seen new so_far none is some = record {
  keys = keys-more Start value pairs so_far.keys;
  start = own time_of Start value pairs seen.start new so_far.start none is some;
  stop = other time_of Stop Start value pairs seen.stop refl so_far.stop;
  kind = other (λ name. Some (kind_of name)) Aggregation Start value pairs seen.kind refl so_far.kind;
  granularity = other span_of Granularity Start value pairs seen.granularity refl so_far.granularity;
  refresh = other switch_of Refresh Start value pairs seen.refresh refl so_far.refresh;
  exact = other switch_of Exact Start value pairs seen.exact refl so_far.exact;
}

pub taken_stop : (value : List ℕ) (pairs : List Pair) (seen : Seen) (new : Option ℕ) → IsSeen pairs seen → seen.stop ≡ None → new ≡ time_of value → IsSome new → IsSeen (with_pair Stop value pairs) (record seen { stop = new })
taken_stop value pairs seen new so_far none is some = record {
  keys = keys-more Stop value pairs so_far.keys;
  start = other time_of Start Stop value pairs seen.start refl so_far.start;
  stop = own time_of Stop value pairs seen.stop new so_far.stop none is some;
  kind = other (λ name. Some (kind_of name)) Aggregation Stop value pairs seen.kind refl so_far.kind;
  granularity = other span_of Granularity Stop value pairs seen.granularity refl so_far.granularity;
  refresh = other switch_of Refresh Stop value pairs seen.refresh refl so_far.refresh;
  exact = other switch_of Exact Stop value pairs seen.exact refl so_far.exact;
}

pub taken_kind : (value : List ℕ) (pairs : List Pair) (seen : Seen) (new : Option (Option Kind)) → IsSeen pairs seen → seen.kind ≡ None → new ≡ Some (kind_of value) → IsSome new → IsSeen (with_pair Aggregation value pairs) (record seen { kind = new })
taken_kind value pairs seen new so_far none is some = record {
  keys = keys-more Aggregation value pairs so_far.keys;
  start = other time_of Start Aggregation value pairs seen.start refl so_far.start;
  stop = other time_of Stop Aggregation value pairs seen.stop refl so_far.stop;
  kind = own (λ name. Some (kind_of name)) Aggregation value pairs seen.kind new so_far.kind none is some;
  granularity = other span_of Granularity Aggregation value pairs seen.granularity refl so_far.granularity;
  refresh = other switch_of Refresh Aggregation value pairs seen.refresh refl so_far.refresh;
  exact = other switch_of Exact Aggregation value pairs seen.exact refl so_far.exact;
}

pub taken_granularity : (value : List ℕ) (pairs : List Pair) (seen : Seen) (new : Option ℕ) → IsSeen pairs seen → seen.granularity ≡ None → new ≡ span_of value → IsSome new → IsSeen (with_pair Granularity value pairs) (record seen { granularity = new })
taken_granularity value pairs seen new so_far none is some = record {
  keys = keys-more Granularity value pairs so_far.keys;
  start = other time_of Start Granularity value pairs seen.start refl so_far.start;
  stop = other time_of Stop Granularity value pairs seen.stop refl so_far.stop;
  kind = other (λ name. Some (kind_of name)) Aggregation Granularity value pairs seen.kind refl so_far.kind;
  granularity = own span_of Granularity value pairs seen.granularity new so_far.granularity none is some;
  refresh = other switch_of Refresh Granularity value pairs seen.refresh refl so_far.refresh;
  exact = other switch_of Exact Granularity value pairs seen.exact refl so_far.exact;
}

pub taken_refresh : (value : List ℕ) (pairs : List Pair) (seen : Seen) (new : Option Bool) → IsSeen pairs seen → seen.refresh ≡ None → new ≡ switch_of value → IsSome new → IsSeen (with_pair Refresh value pairs) (record seen { refresh = new })
taken_refresh value pairs seen new so_far none is some = record {
  keys = keys-more Refresh value pairs so_far.keys;
  start = other time_of Start Refresh value pairs seen.start refl so_far.start;
  stop = other time_of Stop Refresh value pairs seen.stop refl so_far.stop;
  kind = other (λ name. Some (kind_of name)) Aggregation Refresh value pairs seen.kind refl so_far.kind;
  granularity = other span_of Granularity Refresh value pairs seen.granularity refl so_far.granularity;
  refresh = own switch_of Refresh value pairs seen.refresh new so_far.refresh none is some;
  exact = other switch_of Exact Refresh value pairs seen.exact refl so_far.exact;
}

pub taken_exact : (value : List ℕ) (pairs : List Pair) (seen : Seen) (new : Option Bool) → IsSeen pairs seen → seen.exact ≡ None → new ≡ switch_of value → IsSome new → IsSeen (with_pair Exact value pairs) (record seen { exact = new })
taken_exact value pairs seen new so_far none is some = record {
  keys = keys-more Exact value pairs so_far.keys;
  start = other time_of Start Exact value pairs seen.start refl so_far.start;
  stop = other time_of Stop Exact value pairs seen.stop refl so_far.stop;
  kind = other (λ name. Some (kind_of name)) Aggregation Exact value pairs seen.kind refl so_far.kind;
  granularity = other span_of Granularity Exact value pairs seen.granularity refl so_far.granularity;
  refresh = other switch_of Refresh Exact value pairs seen.refresh refl so_far.refresh;
  exact = own switch_of Exact value pairs seen.exact new so_far.exact none is some;
}

-- ---- what is refused

-- a key that was seen already, or a value that isn't of its form
pub refused : {A : Type 0} (read : List ℕ → Option A) (key : Key) (value : List ℕ) (pairs others : List Pair) (seen : Option A) → (read value ≡ None → has_form key value ≡ false) → ReadsAs read (values_of key pairs) seen → IsSome seen ⊎ (read value ≡ None) → IsNoQuery (pairs ++ (key_name key, value) ∷ others)
refused {A} read key value pairs others seen form was why =
    ⊎_elim
    (λ some. twice key (omega (
      arith,
      one seen some was,
      ap length (values_of-append key pairs ((key_name key, value) ∷ others)),
      ap length (values_of-own key value others),
      length-append (values_of key pairs) (values_of key ((key_name key, value) ∷ others)),
    )))
    (λ none. malformed key value (Contains-append_right pairs ((key_name key, value) ∷ others) (key_name key, value) (Contains-here (key_name key, value) others (key_name key, value) refl)) (form none))
    why
  where
    one : (o : Option A) → IsSome o → map read (values_of key pairs) ≡ map Some (option_to_list o) → 1 ≤ length (values_of key pairs)
    one (Some x) some is = omega (arith, ap length is, length-map (values_of key pairs) read)
    one None some is = cc

-- ---- what is asked for

pub reading : {A : Type 0} (read : List ℕ → Option A) (default : A) (values : List (List ℕ)) (seen : Option A) → ReadsAs read values seen → reading_of read default values ≡ Some (unwrap_or seen default)
reading read default [] None is = refl
reading read default [] (Some x) is = cc
reading read default (value ∷ []) None is = cc
reading read default (value ∷ []) (Some x) is = cc
reading read default (value ∷ next ∷ values) None is = cc
reading read default (value ∷ next ∷ values) (Some x) is = cc

pub reading_some : {A : Type 0} (read : List ℕ → Option A) (values : List (List ℕ)) (seen : Option A) → ReadsAs read values seen → reading_of (some_of read) None values ≡ Some seen
reading_some read [] None is = refl
reading_some read [] (Some x) is = cc
reading_some read (value ∷ []) None is = cc
reading_some read (value ∷ []) (Some x) is = let first : read value ≡ Some x = cc in ap (option_map Some) first
reading_some read (value ∷ next ∷ values) None is = cc
reading_some read (value ∷ next ∷ values) (Some x) is = cc

-- what stands for the pairs, where nothing more is to be seen
pub asked_from : (pairs : List Pair) (seen : Seen) (asked : Asked) → IsSeen pairs seen → asked.query.start ≡ seen.start → asked.query.stop ≡ seen.stop → asked.query.kind ≡ unwrap_or seen.kind (Some Mean) → asked.query.granularity ≡ seen.granularity → asked.refresh ≡ unwrap_or seen.refresh false → asked.exact ≡ unwrap_or seen.exact false → IsAsked pairs asked
asked_from pairs seen asked is start stop kind granularity refresh exact = record {
  keys = is.keys;
  start = reading_some time_of (values_of Start pairs) seen.start is.start ∙ ap Some (sym start);
  stop = reading_some time_of (values_of Stop pairs) seen.stop is.stop ∙ ap Some (sym stop);
  kind = reading (λ name. Some (kind_of name)) (Some Mean) (values_of Aggregation pairs) seen.kind is.kind ∙ ap Some (sym kind);
  granularity = reading_some span_of (values_of Granularity pairs) seen.granularity is.granularity ∙ ap Some (sym granularity);
  refresh = reading switch_of false (values_of Refresh pairs) seen.refresh is.refresh ∙ ap Some (sym refresh);
  exact = reading switch_of false (values_of Exact pairs) seen.exact is.exact ∙ ap Some (sym exact);
}

-- ---- the pairs of a text, one after the other

abbrev pub Item : Type 0
Item = Bor (List ℕ) × Bor (List ℕ)

abbrev pub decoded_pair : List ℕ × List ℕ → Pair
decoded_pair pair = (decoded pair.0, decoded pair.1)

-- the pairs of the items so far
abbrev pub so_far : List Item → List Pair
so_far items = map decoded_pair (map pair_text items)

pub so_far-more : (items : List Item) (item : Item) → so_far (items ++ item ∷ []) ≡ so_far items ++ decoded_pair (pair_text item) ∷ []
so_far-more items item =
    ap (map decoded_pair) (map-append pair_text items (item ∷ [])) ∙ map-append decoded_pair (map pair_text items) (pair_text item ∷ [])

-- the pairs so far, the next one, and the others
pub pairs_at : (text : List ℕ) (items : List Item) (item : Item) → map pair_text items ≡ take (length items) (raw_pairs text) → length items < length (raw_pairs text) → pair_text item ≡ get_or (raw_pairs text) (length items) (pair_text item) → pairs_of text ≡ so_far items ++ decoded_pair (pair_text item) ∷ map decoded_pair (drop (suc (length items)) (raw_pairs text))
pairs_at text items item front below next =
    let all = raw_pairs text in
    let n = length items in
    ap (map decoded_pair) (sym (take-append-drop n all))
    ∙ map-append decoded_pair (take n all) (drop n all)
    ∙ ap (λ xs. map decoded_pair xs ++ map decoded_pair (drop n all)) (sym front)
    ∙ ap (λ xs. so_far items ++ map decoded_pair xs) (drop-cons all n (pair_text item) below)
    ∙ ap (λ x. so_far items ++ decoded_pair x ∷ map decoded_pair (drop (suc n) all)) (sym next)

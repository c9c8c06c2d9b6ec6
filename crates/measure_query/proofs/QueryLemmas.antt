-- What pairs ask for, and what is no query.
use Rattle.std.proofs.Common.{◌≡◌, ℕ, ◌≤◌, Bool, true, false, cond, List, [], ◌∷◌, length, Some, None, refl, sym, ap, subst, ◌∙◌, arith}
use Rattle.std.specs.List.{Contains, filter}
use Rattle.std.specs.List.Sorted.{IsPermutation}
use Rattle.std.specs.Str.{bytes_eq}
use Rattle.std.proofs.Math.Logic.{⊎_elim}
use Rattle.std.proofs.lemmas.Bool.{both_ways}
use Rattle.std.proofs.lemmas.List.Elements.{All-contains, All-contains_itself, All-filter, All-nil, filter_passes}
use Rattle.std.proofs.lemmas.List.{length-map}
use Rattle.std.proofs.lemmas.List.Sorted.{All-permutation, Contains-permutation, sum_by-IsPermutation}
use Rattle.std.proofs.lemmas.List.Sums.{length-filter}
use Rattle.std.proofs.lemmas.Slice.Eq.{bytes_eq-Decides}
use Rattle.series_model.proofs.Members.{Contains-cases, Contains-here, Contains-none, map_from}
use Rattle.std.proofs.lemmas.Option.{same_Some}
use Rattle.archive_policy.specs.declared.kind.Kind.TheVariants.{Mean}
use Rattle.form_urlencoded.proofs.FormLemmas.{raw_pairs-nil}
use Rattle.measure_query.specs.declared.key.Key.{Key}
use Rattle.measure_query.specs.declared.key.Key.TheVariants.{Start, Stop, Aggregation, Granularity, Refresh, Exact}
use Rattle.measure_query.specs.declared.query.Asked.{Asked}
use Rattle.measure_query.specs.declared.query.QueryFault.{QueryFault}
use Rattle.measure_query.specs.declared.query.QueryFault.TheVariants.{BadQuery, Memory}
use Rattle.measure_query.specs.Form.{time_of, span_of, kind_of, switch_of, has_form}
use Rattle.measure_query.specs.Key.{Pair, IsKeyName, key_name, pairs_of, values_of}
use Rattle.measure_query.specs.Query.{IsAsked, IsNoQuery, another, twice, malformed, everything, reading_of, some_of}
use Rattle.measure_query.proofs.KeyLemmas.{few, formed, some_of-some, value_there}

-- pairs ask for one thing
pub one : (pairs : List Pair) (a b : Asked) → IsAsked pairs a → IsAsked pairs b → a ≡ b
one pairs a b p q =
    let start : a.query.start ≡ b.query.start = same_Some _ _ (sym p.start ∙ q.start) in
    let stop : a.query.stop ≡ b.query.stop = same_Some _ _ (sym p.stop ∙ q.stop) in
    let kind : a.query.kind ≡ b.query.kind = same_Some _ _ (sym p.kind ∙ q.kind) in
    let granularity : a.query.granularity ≡ b.query.granularity = same_Some _ _ (sym p.granularity ∙ q.granularity) in
    let refresh : a.refresh ≡ b.refresh = same_Some _ _ (sym p.refresh ∙ q.refresh) in
    let exact : a.exact ≡ b.exact = same_Some _ _ (sym p.exact ∙ q.exact) in
    λ i. record {
      query = record { start = start i; stop = stop i; kind = kind i; granularity = granularity i };
      refresh = refresh i;
      exact = exact i;
    }

-- a key of a query has one value at most
single : (pairs : List Pair) (asked : Asked) → IsAsked pairs asked → (key : Key) → length (values_of key pairs) ≤ 1
single pairs asked is Start = few (some_of time_of) None (values_of Start pairs) asked.query.start is.start
single pairs asked is Stop = few (some_of time_of) None (values_of Stop pairs) asked.query.stop is.stop
single pairs asked is Aggregation = few (λ name. Some (kind_of name)) (Some Mean) (values_of Aggregation pairs) asked.query.kind is.kind
single pairs asked is Granularity = few (some_of span_of) None (values_of Granularity pairs) asked.query.granularity is.granularity
single pairs asked is Refresh = few switch_of false (values_of Refresh pairs) asked.refresh is.refresh
single pairs asked is Exact = few switch_of false (values_of Exact pairs) asked.exact is.exact

-- the values of a query are of their forms
well_formed : (pairs : List Pair) (asked : Asked) → IsAsked pairs asked → (key : Key) (value : List ℕ) → Contains (values_of key pairs) value → has_form key value ≡ true
well_formed pairs asked is Start value c =
    some_of-some time_of value (formed (some_of time_of) None (values_of Start pairs) asked.query.start value is.start c)
well_formed pairs asked is Stop value c =
    some_of-some time_of value (formed (some_of time_of) None (values_of Stop pairs) asked.query.stop value is.stop c)
well_formed pairs asked is Aggregation value c = refl
well_formed pairs asked is Granularity value c =
    some_of-some span_of value (formed (some_of span_of) None (values_of Granularity pairs) asked.query.granularity value is.granularity c)
well_formed pairs asked is Refresh value c = formed switch_of false (values_of Refresh pairs) asked.refresh value is.refresh c
well_formed pairs asked is Exact value c = formed switch_of false (values_of Exact pairs) asked.exact value is.exact c

-- what asks for something is a query
pub never : (pairs : List Pair) (asked : Asked) → IsAsked pairs asked → IsNoQuery pairs → ⊥
never pairs asked is (another name value c unknown) =
    let key = All-contains (λ (pair : Pair). IsKeyName pair.0) pairs (name, value) is.keys c in unknown key.0 key.1
never pairs asked is (twice key two) = absurd (omega (arith, single pairs asked is key))
never pairs asked is (malformed key value c bad) =
    both_ways (has_form key value) bad (well_formed pairs asked is key value (value_there key value pairs c))

-- ---- another order

-- a value for a key comes from a pair
value_from : (key : Key) (pairs : List Pair) (value : List ℕ) → Contains (values_of key pairs) value → Contains pairs (key_name key, value)
value_from key pairs value c =
    let p : Pair → Bool = λ pair. bytes_eq pair.0 (key_name key) in
    let kept = filter p pairs in
    let found = map_from (λ (pair : Pair). pair.1) kept value c in
    let name : found.0.0 ≡ key_name key = (bytes_eq-Decides found.0.0 (key_name key)).0 (All-contains (λ (pair : Pair). p pair ≡ true) kept found.0 (filter_passes p pairs) found.1) in
    let there = All-contains (Contains pairs) kept found.0 (All-filter p (Contains pairs) pairs (All-contains_itself pairs)) found.1 in
    subst (Contains pairs) (λ i. (name i, found.2 i)) there

same_single : (vs ws : List (List ℕ)) → length ws ≡ length vs → length vs ≤ 1 → ((v : List ℕ) → Contains vs v → Contains ws v) → ws ≡ vs
same_single [] [] long short there = refl
same_single [] (w ∷ ws) long short there = absurd (omega arith)
same_single (v ∷ []) [] long short there = absurd (omega arith)
same_single (v ∷ []) (w ∷ []) long short there =
    ⊎_elim (λ same. ap (λ x. x ∷ []) same) (λ none. absurd (Contains-none v none)) (Contains-cases w [] v (there v (Contains-here v [] v refl)))
same_single (v ∷ []) (w ∷ x ∷ ws) long short there = absurd (omega arith)
same_single (v ∷ u ∷ vs) ws long short there = absurd (omega arith)

-- the pairs in another order have the same value for a key
same_values : (key : Key) (xs ys : List Pair) → IsPermutation xs ys → length (values_of key xs) ≤ 1 → values_of key ys ≡ values_of key xs
same_values key xs ys moved short =
    let p : Pair → Bool = λ pair. bytes_eq pair.0 (key_name key) in
    let second : Pair → List ℕ = λ pair. pair.1 in
    let long : length (values_of key ys) ≡ length (values_of key xs) =
    length-map (filter p ys) second ∙ length-filter p ys ∙ sum_by-IsPermutation (λ pair. cond (p pair) 1 0) xs ys moved
    ∙ sym (length-map (filter p xs) second ∙ length-filter p xs) in
    same_single (values_of key xs) (values_of key ys) long short
    (λ value c. value_there key value ys (Contains-permutation xs ys (key_name key, value) moved (value_from key xs value c)))

-- the order of the pairs doesn't matter
pub reordered : (xs ys : List Pair) (asked : Asked) → IsPermutation xs ys → IsAsked xs asked → IsAsked ys asked
reordered xs ys asked moved is =
    let same = λ (key : Key). same_values key xs ys moved (single xs asked is key) in
    record {
      keys = All-permutation (λ (pair : Pair). IsKeyName pair.0) xs ys moved is.keys;
      start = ap (reading_of (some_of time_of) None) (same Start) ∙ is.start;
      stop = ap (reading_of (some_of time_of) None) (same Stop) ∙ is.stop;
      kind = ap (reading_of (λ name. Some (kind_of name)) (Some Mean)) (same Aggregation) ∙ is.kind;
      granularity = ap (reading_of (some_of span_of) None) (same Granularity) ∙ is.granularity;
      refresh = ap (reading_of switch_of false) (same Refresh) ∙ is.refresh;
      exact = ap (reading_of switch_of false) (same Exact) ∙ is.exact;
    }

-- a fault that isn't that of the query is want of memory
pub memory : (fault : QueryFault) → (fault ≡ BadQuery → ⊥) → fault ≡ Memory
memory BadQuery not = absurd (not refl)
memory Memory not = refl

pub nothing_asked : IsAsked [] everything
nothing_asked = record {
  keys = All-nil (λ (pair : Pair). IsKeyName pair.0);
  start = refl;
  stop = refl;
  kind = refl;
  granularity = refl;
  refresh = refl;
  exact = refl;
}

pub no_pairs : pairs_of [] ≡ []
no_pairs = rw raw_pairs-nil

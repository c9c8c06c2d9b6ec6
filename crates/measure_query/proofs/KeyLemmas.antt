-- The values that stand for a key, and what they come to.
use Rattle.std.proofs.Common.{◌≡◌, ℕ, ◌≤◌, Bool, true, false, cond, List, [], ◌∷◌, ◌++◌, map, length, Option, Some, None, refl, sym, ap, subst, ◌∙◌, arith}
use Rattle.std.specs.Prelude.{is_some}
use Rattle.std.specs.List.{Contains, filter}
use Rattle.std.specs.Option.{option_map}
use Rattle.std.specs.Str.{bytes_eq}
use Rattle.std.proofs.lemmas.List.{map-append}
use Rattle.std.proofs.lemmas.List.Elements.{Contains-append_right, filter-append}
use Rattle.std.proofs.lemmas.Option.{none-some}
use Rattle.series_model.proofs.Members.{Contains-cases, Contains-none, Contains-here}
use Rattle.std.proofs.Math.Logic.{⊎_elim}
use Rattle.measure_query.specs.declared.key.Key.{Key}
use Rattle.measure_query.specs.declared.key.Key.TheVariants.{Start, Stop, Aggregation, Granularity, Refresh, Exact}
use Rattle.measure_query.specs.Key.{Pair, key_name, values_of}
use Rattle.measure_query.specs.Query.{reading_of, some_of}

-- a name is itself
pub own_name : (key : Key) → bytes_eq (key_name key) (key_name key) ≡ true
own_name Start = refl
own_name Stop = refl
own_name Aggregation = refl
own_name Granularity = refl
own_name Refresh = refl
own_name Exact = refl

-- the value of one pair, where its name is that of the key
abbrev pub value_in : Key → Pair → List (List ℕ)
value_in key pair = cond (bytes_eq pair.0 (key_name key)) (pair.1 ∷ []) []

values_of-one : (key : Key) (pair : Pair) → values_of key (pair ∷ []) ≡ value_in key pair
values_of-one key pair = by (bytes_eq pair.0 (key_name key))
  where
    by : (b : Bool) → map (λ (p : Pair). p.1) (cond b (pair ∷ []) []) ≡ cond b (pair.1 ∷ []) []
    by true = refl
    by false = refl

pub values_of-append : (key : Key) (xs ys : List Pair) → values_of key (xs ++ ys) ≡ values_of key xs ++ values_of key ys
values_of-append key xs ys =
    let p = λ (pair : Pair). bytes_eq pair.0 (key_name key) in
    ap (map (λ (pair : Pair). pair.1)) (filter-append p xs ys) ∙ map-append (λ (pair : Pair). pair.1) (filter p xs) (filter p ys)

-- one more pair
pub values_of-more : (key : Key) (pairs : List Pair) (pair : Pair) → values_of key (pairs ++ pair ∷ []) ≡ values_of key pairs ++ value_in key pair
values_of-more key pairs pair =
    values_of-append key pairs (pair ∷ []) ∙ ap (λ vs. values_of key pairs ++ vs) (values_of-one key pair)

-- a pair of the key in front
pub values_of-own : (key : Key) (value : List ℕ) (pairs : List Pair) → values_of key ((key_name key, value) ∷ pairs) ≡ value ∷ values_of key pairs
values_of-own key value pairs =
    ap (λ b. map (λ (pair : Pair). pair.1) (cond b ((key_name key, value) ∷ filter (λ (pair : Pair). bytes_eq pair.0 (key_name key)) pairs) (filter (λ (pair : Pair). bytes_eq pair.0 (key_name key)) pairs))) (own_name key)

-- the value of a pair is among the values of its key
pub value_there : (key : Key) (value : List ℕ) (pairs : List Pair) → Contains pairs (key_name key, value) → Contains (values_of key pairs) value
value_there key value [] c = absurd (Contains-none _ c)
value_there key value (pair ∷ pairs) c =
    ⊎_elim
    (λ same. subst (λ (p : Pair). Contains (values_of key (p ∷ pairs)) value) (sym same) (subst (λ vs. Contains vs value) (sym (values_of-own key value pairs)) (Contains-here value (values_of key pairs) value refl)))
    (λ there. subst (λ vs. Contains vs value) (sym (values_of-append key (pair ∷ []) pairs)) (Contains-append_right (values_of key (pair ∷ [])) (values_of key pairs) value (value_there key value pairs there)))
    (Contains-cases pair pairs (key_name key, value) c)

-- ---- what values come to

-- what comes to something has one value at most
pub few : {A : Type 0} (read : List ℕ → Option A) (default : A) (values : List (List ℕ)) (x : A) → reading_of read default values ≡ Some x → length values ≤ 1
few read default [] x is = omega arith
few read default (value ∷ []) x is = omega arith
few read default (value ∷ next ∷ values) x is = absurd (none-some x is)

some_some : {A : Type 0} (o : Option A) (x : A) → o ≡ Some x → is_some o ≡ true
some_some o x is = ap is_some is

-- what comes to something has values that read as something
pub formed : {A : Type 0} (read : List ℕ → Option A) (default : A) (values : List (List ℕ)) (x : A) (value : List ℕ) → reading_of read default values ≡ Some x → Contains values value → is_some (read value) ≡ true
formed read default [] x value is c = absurd (Contains-none value c)
formed read default (v ∷ []) x value is c =
    ⊎_elim (λ same. some_some (read value) x (ap read (sym same) ∙ is)) (λ there. absurd (Contains-none value there)) (Contains-cases v [] value c)
formed read default (v ∷ next ∷ values) x value is c = absurd (none-some x is)

-- a reading of what may be left out is one
pub some_of-some : {A : Type 0} (read : List ℕ → Option A) (value : List ℕ) → is_some (some_of read value) ≡ true → is_some (read value) ≡ true
some_of-some read value is = by (read value) is
  where
    by : {A : Type 0} (o : Option A) → is_some (option_map Some o) ≡ true → is_some o ≡ true
    by None is = is
    by (Some x) is = refl

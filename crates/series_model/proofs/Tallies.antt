-- The values that a kind is taken of, over a part of the series.
use Rattle.std.proofs.Common.{◌≡◌, ℕ, zero, suc, ◌+◌, ◌-◌, ◌*◌, ◌^◌, ◌<◌, ◌≤◌, Bool, true, false, cond, ltb, leb, ◌&&◌, List, [], ◌∷◌, ◌++◌, map, take, drop, take_all, length, get_or, Option, Some, None, ℤ, pos, ◌+ℤ◌, ◌-ℤ◌, unsigned_abs, refl, sym, ap, ◌∙◌, arith, add-one, length-drop, subst}
use Rattle.std.specs.List.{filter, fold, list_any, slice_get}
use Rattle.std.proofs.lemmas.Option.{get_or_from_slice_get}
use Rattle.std.specs.Int.{int_min, int_max}
use Rattle.std.specs.Option.{option_map, option_to_list}
use Rattle.std.specs.Ordering.{int_eq}
use Rattle.std.proofs.lemmas.List.{map-append, take_more}
use Rattle.std.proofs.lemmas.List.Elements.{filter-append}
use Rattle.std.proofs.lemmas.Int.{ints}
use Rattle.archive_policy.specs.declared.kind.Kind.{Kind}
use Rattle.archive_policy.specs.Kinds.{is_rate}
use Rattle.series_model.specs.declared.measure.Measure.{Measure}
use Rattle.series_model.specs.Bucket.{bucket, changes, changes_after, members_for, distinct_count, values_in, least, greatest, first, last}

-- whether a time is in a bucket
abbrev pub is_in : ℕ → ℕ → ℕ → Bool
is_in granularity start at = leb start at && ltb at (start + granularity)

-- a value at the time of a member
abbrev at_time : Measure → ℤ → Measure
at_time m value = record { at = m.at; value = value }

-- ---- changes of one member more

after_more : (before : Measure) (xs : List Measure) (i : ℕ) (p m : Measure) → i < length xs → m ≡ get_or xs i m → p ≡ get_or (before ∷ xs) i p → changes_after before (take (suc i) xs) ≡ changes_after before (take i xs) ++ at_time m (m.value -ℤ p.value) ∷ []
after_more before [] i p m below is was = absurd (omega arith)
after_more before (x ∷ xs) zero p m below is was =
    ap (λ (y : Measure). at_time y (y.value -ℤ before.value) ∷ []) (sym is) ∙ ap (λ (y : Measure). at_time m (m.value -ℤ y.value) ∷ []) (sym was)
after_more before (x ∷ xs) (suc i) p m below is was =
    ap (λ rest. at_time x (x.value -ℤ before.value) ∷ rest) (after_more x xs i p m (omega arith) is was)

-- the member behind another one
pub changes_more : (xs : List Measure) (i : ℕ) (p m : Measure) → suc i < length xs → m ≡ get_or xs (suc i) m → p ≡ get_or xs i p → changes (take (suc (suc i)) xs) ≡ changes (take (suc i) xs) ++ at_time m (m.value -ℤ p.value) ∷ []
changes_more [] i p m below is was = absurd (omega arith)
changes_more (x ∷ xs) i p m below is was = after_more x xs i p m (omega arith) is was

-- ---- what a kind is taken of, one member more

pub plain_more : (kind : Kind) (xs : List Measure) (i : ℕ) (m : Measure) (v : ℤ) → is_rate kind ≡ false → i < length xs → slice_get xs i ≡ Some m → v ≡ m.value → members_for kind (take (i + 1) xs) ≡ members_for kind (take i xs) ++ at_time m v ∷ []
plain_more kind xs i m v plain below there is =
    ap (λ b. cond b (changes (take (i + 1) xs)) (take (i + 1) xs)) plain ∙ take_more xs i m below
    ∙ ap (λ (x : Measure). take i xs ++ x ∷ []) (get_or_from_slice_get xs i m m there)
    ∙ ap (λ w. take i xs ++ at_time m w ∷ []) (sym is)
    ∙ ap (λ b. cond b (changes (take i xs)) (take i xs) ++ at_time m v ∷ []) (sym plain)

pub rate_more : (kind : Kind) (xs : List Measure) (i : ℕ) (m p : Measure) (v : ℤ) → is_rate kind ≡ true → 0 < i → i < length xs → slice_get xs i ≡ Some m → p ≡ get_or xs (i - 1) p → v ≡ m.value -ℤ p.value → members_for kind (take (i + 1) xs) ≡ members_for kind (take i xs) ++ at_time m v ∷ []
rate_more kind xs zero m p v rate some below there was is = absurd (omega arith)
rate_more kind xs (suc i) m p v rate some below there was is =
    let prev : suc i - 1 ≡ i = omega arith in
    let P : ℕ → Type 0 = λ n. p ≡ get_or xs n p in
    ap (λ b. cond b (changes (take (suc i + 1) xs)) (take (suc i + 1) xs)) rate
    ∙ ap (λ n. changes (take n xs)) (add-one (suc i))
    ∙ changes_more xs i p m below (sym (get_or_from_slice_get xs (suc i) m m there)) (subst P prev was)
    ∙ ap (λ w. changes (take (suc i) xs) ++ at_time m w ∷ []) (sym is)
    ∙ ap (λ b. cond b (changes (take (suc i) xs)) (take (suc i) xs) ++ at_time m v ∷ []) (sym rate)

-- ---- a loop's steps

-- a choice of one thing
one_choice : (X : Type 0) (b : Bool) (x : X) → cond b x x ≡ x
one_choice X true x = refl
one_choice X false x = refl

-- what is in the bucket of what a kind is taken of at one member
one_in : (g start : ℕ) (m : Measure) (o : Option ℤ) → map (λ (x : Measure). x.value) (filter (λ (x : Measure). is_in g start x.at) (option_to_list (option_map (at_time m) o))) ≡ cond (is_in g start m.at) (option_to_list o) []
one_in g start m None = sym (one_choice (List ℤ) (is_in g start m.at) [])
one_in g start m (Some v) = by (is_in g start m.at)
  where
    by : (b : Bool) → map (λ (x : Measure). x.value) (cond b (at_time m v ∷ []) []) ≡ cond b (v ∷ []) []
    by true = refl
    by false = refl

-- the bucket of one member more, by what the kind is taken of there
pub bucket_more : (kind : Kind) (g start : ℕ) (xs ys : List Measure) (m : Measure) (o : Option ℤ) → members_for kind ys ≡ members_for kind xs ++ option_to_list (option_map (at_time m) o) → values_in kind g ys start ≡ values_in kind g xs start ++ cond (is_in g start m.at) (option_to_list o) []
bucket_more kind g start xs ys m o is =
    let inside : Measure → Bool = λ (x : Measure). is_in g start x.at in
    let value : Measure → ℤ = λ (x : Measure). x.value in
    ap (λ l. map value (filter inside l)) is
    ∙ ap (map value) (filter-append inside (members_for kind xs) (option_to_list (option_map (at_time m) o)))
    ∙ map-append value (bucket g start (members_for kind xs)) (filter inside (option_to_list (option_map (at_time m) o)))
    ∙ ap (λ l. values_in kind g xs start ++ l) (one_in g start m o)

-- a member of the bucket
pub values_inside : (kind : Kind) (g start : ℕ) (xs ys : List Measure) (m : Measure) (o : Option ℤ) → members_for kind ys ≡ members_for kind xs ++ option_to_list (option_map (at_time m) o) → is_in g start m.at ≡ true → values_in kind g ys start ≡ values_in kind g xs start ++ option_to_list o
values_inside kind g start xs ys m o is inside =
    bucket_more kind g start xs ys m o is ∙ ap (λ b. values_in kind g xs start ++ cond b (option_to_list o) []) inside

-- a member outside
pub values_outside : (kind : Kind) (g start : ℕ) (xs ys : List Measure) (m : Measure) (o : Option ℤ) → members_for kind ys ≡ members_for kind xs ++ option_to_list (option_map (at_time m) o) → is_in g start m.at ≡ false → values_in kind g ys start ≡ values_in kind g xs start ++ []
values_outside kind g start xs ys m o is outside =
    bucket_more kind g start xs ys m o is ∙ ap (λ b. values_in kind g xs start ++ cond b (option_to_list o) []) outside

-- ---- the parts of a list of values

pub least_all : (values : List ℤ) (v : ℤ) → 0 < length values → v ≡ get_or values 0 v → fold int_min v values ≡ least values
least_all [] v some is = absurd (omega arith)
least_all (x ∷ values) v some is =
    ap (λ y. fold int_min y values) (ap (λ y. int_min y x) is ∙ same x)
  where
    same : (x : ℤ) → int_min x x ≡ x
    same x = one_choice ℤ _ x

pub greatest_all : (values : List ℤ) (v : ℤ) → 0 < length values → v ≡ get_or values 0 v → fold int_max v values ≡ greatest values
greatest_all [] v some is = absurd (omega arith)
greatest_all (x ∷ values) v some is =
    ap (λ y. fold int_max y values) (ap (λ y. int_max y x) is ∙ same x)
  where
    same : (x : ℤ) → int_max x x ≡ x
    same x = one_choice ℤ _ x

pub first_is : (values : List ℤ) (v : ℤ) → 0 < length values → v ≡ get_or values 0 v → v ≡ first values
first_is [] v some is = absurd (omega arith)
first_is (x ∷ values) v some is = is

pub last_is : (values : List ℤ) → get_or values (length values - 1) (pos 0) ≡ last values
last_is [] = refl
last_is (x ∷ []) = refl
last_is (x ∷ y ∷ values) =
    let e : length (x ∷ y ∷ values) - 1 ≡ suc (length (y ∷ values) - 1) = omega arith in
    ap (λ i. get_or (x ∷ y ∷ values) i (pos 0)) e ∙ last_is (y ∷ values)

-- the number of different values from one on
distinct_step : (values : List ℤ) (i : ℕ) → i < length values → distinct_count (drop i values) ≡ cond (list_any (λ w. int_eq w (get_or values i (pos 0))) (drop (suc i) values)) 0 1 + distinct_count (drop (suc i) values)
distinct_step [] i below = absurd (omega arith)
distinct_step (x ∷ values) zero below = refl
distinct_step (x ∷ values) (suc i) below = distinct_step values i (omega arith)

pub distinct_next : (values : List ℤ) (i : ℕ) → i < length values → let rest = take (length values - (i + 1)) (drop (i + 1) values) in distinct_count (drop i values) ≡ cond (list_any (λ w. int_eq w (get_or values i (pos 0))) rest) 0 1 + distinct_count (drop (i + 1) values)
distinct_next values i below =
    let all : take (length values - (i + 1)) (drop (i + 1) values) ≡ drop (i + 1) values =
    take_all _ _ (omega (arith, length-drop (i + 1) values)) in
    rw (all, add-one) (distinct_step values i below)

-- ---- a small value keeps a sum small

pub sum_small : (sum value : ℤ) (count : ℕ) → unsigned_abs sum ≤ count * (2 * 10 ^ 18) → unsigned_abs value ≤ 2 * 10 ^ 18 → unsigned_abs (sum +ℤ value) ≤ (count + 1) * (2 * 10 ^ 18)
sum_small (pos a) (pos b) count h k = omega arith
sum_small sum value count h k = omega (arith, ints)

-- Lists of ranges that are apart, split at one of them.
use Rattle.std.proofs.Common.{◌≡◌, ◌≢◌, ◌∙◌, ℕ, ◌+◌, ◌-◌, ◌<◌, ◌≤◌, inl, inr, suc, zero, ltb, true, List, [], ◌∷◌, ◌++◌, Option, Some, None, length, get_or, set, take, drop, refl, sym, ap, subst, ⊎_elim, arith, add-one, add-suc, drop-cons}
use Rattle.std.specs.List.{All, AllPairs, slice_get}
use Rattle.std.specs.List.Sorted.{IsPartitionedBy}
use Rattle.std.proofs.lemmas.Bool.{ltb-true, lt-ltb, cases_eq}
use Rattle.std.proofs.lemmas.List.{take-append-drop, get_or-drop, length-drop}
use Rattle.std.proofs.lemmas.List.Elements.{All-nil, All-cons, All-head, All-tail, All-append}
use Rattle.std.proofs.lemmas.List.Kept.{AllPairs-cons}
use Rattle.std.proofs.lemmas.Option.{slice_get_cases, slice_get-get_or, get_or_from_slice_get}
use Rattle.std.specs.Option.{IsSomeAnd}
use Rattle.extent_map.specs.Ranges.{EndsBefore}

pub All-left : {X : Type 0} (P : X → Type 0) (xs ys : List X) → All P (xs ++ ys) → All P xs
All-left P [] ys h = All-nil P
All-left P (x ∷ xs) ys h =
    All-cons P x xs (All-head P x (xs ++ ys) h) (All-left P xs ys (All-tail P x (xs ++ ys) h))

pub All-right : {X : Type 0} (P : X → Type 0) (xs ys : List X) → All P (xs ++ ys) → All P ys
All-right P [] ys h = h
All-right P (x ∷ xs) ys h = All-right P xs ys (All-tail P x (xs ++ ys) h)

pub pairs-head : {X : Type 0} (R : X → X → Type 0) (x : X) (xs : List X) → AllPairs R (x ∷ xs) → All (R x) xs
pairs-head R x xs h k d below = h 0 (suc k) d (omega arith) (omega arith)

pub pairs-tail : {X : Type 0} (R : X → X → Type 0) (x : X) (xs : List X) → AllPairs R (x ∷ xs) → AllPairs R xs
pairs-tail R x xs h i j d rise below = h (suc i) (suc j) d (omega arith) (omega arith)

pub pairs-left : {X : Type 0} (R : X → X → Type 0) (xs ys : List X) → AllPairs R (xs ++ ys) → AllPairs R xs
pairs-left R [] ys h = λ i j d rise below. absurd (omega arith)
pairs-left R (x ∷ xs) ys h =
    AllPairs-cons R x xs (All-left (R x) xs ys (pairs-head R x (xs ++ ys) h)) (pairs-left R xs ys (pairs-tail R x (xs ++ ys) h))

pub pairs-right : {X : Type 0} (R : X → X → Type 0) (xs ys : List X) → AllPairs R (xs ++ ys) → AllPairs R ys
pairs-right R [] ys h = h
pairs-right R (x ∷ xs) ys h = pairs-right R xs ys (pairs-tail R x (xs ++ ys) h)

pub pairs-across : {X : Type 0} (R : X → X → Type 0) (xs ys : List X) → AllPairs R (xs ++ ys) → All (λ x. All (R x) ys) xs
pairs-across R [] ys h = All-nil (λ x. All (R x) ys)
pairs-across R (x ∷ xs) ys h =
    All-cons (λ x. All (R x) ys) x xs (All-right (R x) xs ys (pairs-head R x (xs ++ ys) h)) (pairs-across R xs ys (pairs-tail R x (xs ++ ys) h))

pub pairs-append : {X : Type 0} (R : X → X → Type 0) (xs ys : List X) → AllPairs R xs → AllPairs R ys → All (λ x. All (R x) ys) xs → AllPairs R (xs ++ ys)
pairs-append R [] ys a b across = b
pairs-append R (x ∷ xs) ys a b across =
    AllPairs-cons R x (xs ++ ys)
    (All-append (R x) xs ys (pairs-head R x xs a) (All-head (λ x. All (R x) ys) x xs across))
    (pairs-append R xs ys (pairs-tail R x xs a) b (All-tail (λ x. All (R x) ys) x xs across))

-- a list, split at one of its elements
pub split_at : {X : Type 0} (xs : List X) (i : ℕ) (d : X) → i < length xs → xs ≡ take i xs ++ get_or xs i d ∷ drop (i + 1) xs
split_at xs i d h = rw (add-one, ← drop-cons xs i d h) (sym (take-append-drop i xs))

set_suc : {X : Type 0} (xs : List X) (i : ℕ) (y : X) → i < length xs → set xs i y ≡ take i xs ++ y ∷ drop (suc i) xs
set_suc [] i y h = absurd (omega arith)
set_suc (x ∷ xs) zero y h = refl
set_suc (x ∷ xs) (suc i) y h = ap (λ ys. x ∷ ys) (set_suc xs i y (omega arith))

-- a write puts the element in place of the one that is there
pub set_split : {X : Type 0} (xs : List X) (i : ℕ) (y : X) → i < length xs → set xs i y ≡ take i xs ++ y ∷ drop (i + 1) xs
set_split xs i y h = rw add-one (set_suc xs i y h)

-- an element stands within its list
pub got_within : {X : Type 0} (xs : List X) (i : ℕ) (x : X) → slice_get xs i ≡ Some x → i < length xs
got_within xs i x got =
    elim (slice_get_cases xs i).1 [
      | inl there ↦ there.1
      | inr past ↦ absurd (let no : Some x ≡ None = sym got ∙ past.1 in cc)
    ]

-- a list, split at one of its elements
pub split_got : {X : Type 0} (xs : List X) (i : ℕ) (x : X) → slice_get xs i ≡ Some x → xs ≡ take i xs ++ x ∷ drop (i + 1) xs
split_got xs i x got =
    split_at xs i x (got_within xs i x got) ∙ ap (λ y. take i xs ++ y ∷ drop (i + 1) xs) (get_or_from_slice_get xs i x x got)

-- an element is taken out, and the next one gives way to another
two_suc : {X : Type 0} (xs : List X) (i : ℕ) (y : X) → suc i < length xs → take i (take i xs ++ drop (suc i) xs) ++ y ∷ drop (suc i) (take i xs ++ drop (suc i) xs) ≡ take i xs ++ y ∷ drop (suc (suc i)) xs
two_suc [] i y h = absurd (omega arith)
two_suc (x ∷ xs) zero y h = refl
two_suc (x ∷ xs) (suc i) y h = ap (λ ys. x ∷ ys) (two_suc xs i y (omega arith))

pub two_split : {X : Type 0} (xs : List X) (i : ℕ) (y : X) → i + 1 < length xs → take i (take i xs ++ drop (i + 1) xs) ++ y ∷ drop (i + 1) (take i xs ++ drop (i + 1) xs) ≡ take i xs ++ y ∷ drop (i + 2) xs
two_split xs i y h = rw (add-suc i 1, add-one) (two_suc xs i y (omega arith))

-- an element is put before the next one, and it gives way to another
inserted_suc : {X : Type 0} (xs : List X) (i : ℕ) (p q : X) → i < length xs → take i (take (suc i) xs ++ q ∷ drop (suc i) xs) ++ p ∷ drop (suc i) (take (suc i) xs ++ q ∷ drop (suc i) xs) ≡ take i xs ++ p ∷ q ∷ drop (suc i) xs
inserted_suc [] i p q h = absurd (omega arith)
inserted_suc (x ∷ xs) zero p q h = refl
inserted_suc (x ∷ xs) (suc i) p q h = ap (λ ys. x ∷ ys) (inserted_suc xs i p q (omega arith))

pub inserted : {X : Type 0} (xs : List X) (i : ℕ) (p q : X) → i < length xs → take i (take (i + 1) xs ++ q ∷ drop (i + 1) xs) ++ p ∷ drop (i + 1) (take (i + 1) xs ++ q ∷ drop (i + 1) xs) ≡ take i xs ++ p ∷ q ∷ drop (i + 1) xs
inserted xs i p q h = rw add-one (inserted_suc xs i p q h)

-- the ranges that end before a place stand in front of all others
pub ends_parted : (place : ℕ) (xs : List (ℕ × ℕ)) → AllPairs EndsBefore xs → IsPartitionedBy (λ (r : ℕ × ℕ). ltb r.1 (place - r.0)) xs
ends_parted place xs apart i j d le below ends =
    ⊎_elim
    (λ same. subst (λ k. ltb (get_or xs k d).1 (place - (get_or xs k d).0) ≡ true) (sym same) ends)
    (λ other. lt-ltb _ _ (omega (arith, apart i j d (omega (arith, other)) below, ltb-true _ _ ends)))
    (cases_eq i j)

-- none of the ranges from an index on begins at the place that the first of them misses
pub clear : (xs : List (ℕ × ℕ)) (i stop : ℕ) → AllPairs EndsBefore xs → All (λ (s : ℕ × ℕ). stop ≤ s.0) (drop i xs) → ((r : ℕ × ℕ) → slice_get xs i ≡ Some r → r.0 ≢ stop) → All (λ (s : ℕ × ℕ). stop < s.0) (drop i xs)
clear xs i stop apart from miss k d h =
    let first = get_or xs i d in
    let short : i + k < length xs = omega (arith, h, length-drop i xs) in
    let got : slice_get xs i ≡ Some first = slice_get-get_or xs i d (omega arith) in
    let at : stop ≤ (get_or xs (i + k) d).0 = rw get_or-drop at (from k d h) in
    let low : stop ≤ (get_or xs (i + 0) d).0 = rw get_or-drop at (from 0 d (omega arith)) in
    rw get_or-drop (
    ⊎_elim
    (λ none. omega (arith, miss first got, at, ap (λ j. (get_or xs j d).0) (let e : i + k ≡ i = omega (arith, none) in e)))
    (λ some. omega (arith, low, apart i (i + k) d (omega (arith, some)) short, ap (λ j. (get_or xs j d).0) (let e : i + 0 ≡ i = omega arith in e)))
    (cases_eq k 0)
    )

-- what was read at an index, where something is there
pub got_read : {X : Type 0} (xs : List X) (i : ℕ) (x : X) (P : X → Type 0) → IsSomeAnd (slice_get xs i) P → x ≡ get_or xs i x → slice_get xs i ≡ Some x
got_read xs i x P some read =
    elim (slice_get_cases xs i).1 [
      | inl there ↦ slice_get-get_or xs i x there.1 ∙ ap Some (sym read)
      | inr past ↦ absurd (subst (λ o. IsSomeAnd o P) past.1 some)
    ]

-- what holds of the element that was read
pub held : {X : Type 0} (xs : List X) (i : ℕ) (x : X) (P : X → Type 0) → IsSomeAnd (slice_get xs i) P → slice_get xs i ≡ Some x → P x
held xs i x P some got = subst (λ o. IsSomeAnd o P) got some

-- the value of which a fact holds
pub some_and : {X : Type 0} (o : Option X) (P : X → Type 0) → IsSomeAnd o P → (x : X) × ((o ≡ Some x) × P x)
some_and None P h = absurd h
some_and (Some x) P h = (x, (refl, h))

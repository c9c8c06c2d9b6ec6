-- Lists that are mapped, and their members.
use Rattle.std.proofs.Common.{◌≡◌, ℕ, zero, suc, ◌+◌, ◌<◌, ◌⊎◌, Bool, true, false, ◌||◌, List, [], ◌∷◌, ◌++◌, map, take, length, get_or, Option, Some, None, refl, sym, ap, ◌∙◌, inl, inr, arith, rules}
use Rattle.std.proofs.Math.Logic.{⊎_elim}
use Rattle.std.proofs.lemmas.Bool.{both_ways, cond_both}
use Rattle.std.proofs.lemmas.List.{take_more, map-append}
use Rattle.std.proofs.lemmas.Bool.{false_from_ne_true}
use Rattle.std.proofs.lemmas.List.Folds.{Any-from_list_any, list_any-from_Any, list_any_at}
use Rattle.std.specs.List.{All, Any, Contains, filter, list_any}
use Rattle.std.specs.Option.{SomeIff, IsSome}

-- a loop's step
pub map_more : {A B : Type 0} (f : A → B) (xs : List A) (i : ℕ) (x : A) → i < length xs → x ≡ get_or xs i x → map f (take (i + 1) xs) ≡ map f (take i xs) ++ f x ∷ []
map_more f xs i x below is =
    ap (map f) (take_more xs i x below) ∙ map-append f (take i xs) (get_or xs i x ∷ []) ∙ ap (λ y. map f (take i xs) ++ f y ∷ []) (sym is)

-- a test of what a list is mapped to
pub list_any-map : {A B : Type 0} (p : B → Bool) (f : A → B) (xs : List A) → list_any p (map f xs) ≡ list_any (λ x. p (f x)) xs
list_any-map p f [] = refl
list_any-map p f (x ∷ xs) = ap (λ rest. p (f x) || rest) (list_any-map p f xs)

-- ---- members

pub Contains-here : {X : Type 0} (x : X) (xs : List X) (m : X) → x ≡ m → Contains (x ∷ xs) m
Contains-here x xs m same = (0, omega arith, same)

pub Contains-there : {X : Type 0} (x : X) (xs : List X) (m : X) → Contains xs m → Contains (x ∷ xs) m
Contains-there x xs m c = (suc c.0, omega (arith, c.1), c.2)

pub Contains-cases : {X : Type 0} (x : X) (xs : List X) (m : X) → Contains (x ∷ xs) m → (x ≡ m) ⊎ Contains xs m
Contains-cases x xs m c = by c.0 c.1 c.2
  where
    by : (k : ℕ) → k < length (x ∷ xs) → get_or (x ∷ xs) k m ≡ m → (x ≡ m) ⊎ Contains xs m
    by zero below same = inl same
    by (suc k) below same = inr (k, omega arith, same)

pub Contains-none : {X : Type 0} (m : X) → Contains [] m → ⊥
Contains-none m c = absurd (omega (arith, c.1))

-- ---- what a filter keeps

pub kept : {X : Type 0} (p : X → Bool) (xs : List X) (m : X) → Contains xs m → p m ≡ true → Contains (filter p xs) m
kept p [] m c pass = absurd (Contains-none m c)
kept {X} p (x ∷ xs) m c pass =
    let P : List X → Type 0 = λ l. Contains l m in
    cond_both
    (p x)
    (x ∷ filter p xs)
    (filter p xs)
    P
    (λ is. ⊎_elim (λ same. Contains-here x (filter p xs) m same) (λ there. Contains-there x (filter p xs) m (kept p xs m there pass)) (Contains-cases x xs m c))
    (λ is. ⊎_elim (λ same. absurd (both_ways (p x) is (ap p same ∙ pass))) (λ there. kept p xs m there pass) (Contains-cases x xs m c))

pub kept_from : {X : Type 0} (p : X → Bool) (xs : List X) (m : X) → Contains (filter p xs) m → Contains xs m × (p m ≡ true)
kept_from p [] m c = absurd (Contains-none m c)
kept_from {X} p (x ∷ xs) m c =
    let P : List X → Type 0 = λ l. Contains l m → Contains (x ∷ xs) m × (p m ≡ true) in
    cond_both
    (p x)
    (x ∷ filter p xs)
    (filter p xs)
    P
    (λ is c. ⊎_elim (λ same. (Contains-here x xs m same, ap p (sym same) ∙ is)) (λ there. let r = kept_from p xs m there in (Contains-there x xs m r.0, r.1)) (Contains-cases x (filter p xs) m c))
    (λ is c. let r = kept_from p xs m c in (Contains-there x xs m r.0, r.1))
    c

-- ---- tests and what they say

-- some element passes a test
pub any_from : {X : Type 0} (p : X → Bool) (P : X → Type 0) → ((x : X) → p x ≡ true → P x) → (xs : List X) → list_any p xs ≡ true → Any P xs
any_from p P says xs is = let a = Any-from_list_any p xs is in (a.0, a.1, a.2, a.3, says a.1 a.4)

pub any_to : {X : Type 0} (p : X → Bool) (P : X → Type 0) → ((x : X) → P x → p x ≡ true) → (xs : List X) → Any P xs → list_any p xs ≡ true
any_to p P says xs a = list_any-from_Any p xs (a.0, a.1, a.2, a.3, says a.1 a.4)

-- each element fails a test that none passes
pub none_passes : {X : Type 0} (p : X → Bool) (xs : List X) → list_any p xs ≡ false → All (λ x. p x ≡ false) xs
none_passes p xs none i d below =
    false_from_ne_true (p (get_or xs i d)) (λ passes. both_ways (list_any p xs) none (list_any_at p xs i d below passes))

-- two maps in a row
pub map-map : {A B C : Type 0} (f : B → C) (g : A → B) (xs : List A) → map f (map g xs) ≡ map (λ x. f (g x)) xs
map-map f g [] = refl
map-map f g (x ∷ xs) = ap (λ rest. f (g x) ∷ rest) (map-map f g xs)

-- an element read with another default
pub read_any : {X : Type 0} (xs : List X) (k : ℕ) (d e : X) → k < length xs → get_or xs k d ≡ get_or xs k e
read_any [] k d e below = absurd (omega arith)
read_any (x ∷ xs) zero d e below = refl
read_any (x ∷ xs) (suc k) d e below = read_any xs k d e (omega arith)

-- an option that is there where a fact holds, and it does
pub some_where : {X : Type 0} (P : Type 0) (x : X) (o : Option X) → SomeIff o P x → P → IsSome o
some_where P x None none holds = absurd (none holds)
some_where P x (Some y) some holds = search rules

-- A list by rising keys, cut at a key.
use Rattle.std.proofs.Common.{◌≡◌, ℕ, zero, suc, ◌<◌, ◌≤◌, Bool, leb, ltb, List, [], ◌∷◌, map, take, drop, get_or, refl, ap, ◌∙◌, arith}
use Rattle.std.specs.List.{All, filter}
use Rattle.std.specs.List.Sorted.{IsStrictlyIncreasing, IsNonDecreasingBy}
use Rattle.std.proofs.Math.Logic.{⊎_elim}
use Rattle.std.proofs.lemmas.Bool.{le-leb, lt-leb, lt-ltb, le-ltb, cases_eq}
use Rattle.std.proofs.lemmas.List.Elements.{All-cons, All-nil, All-head, All-tail}
use Rattle.std.proofs.lemmas.List.Kept.{AllPairs-from_increasing}
use Rattle.series_model.proofs.ByKey.{filter-keep, filter-skip}

module _ {X : Type 0} (f : X → ℕ) (k : ℕ) where
  abbrev early : X → Bool
  early x = ltb (f x) k

  abbrev late : X → Bool
  late x = leb k (f x)

  all_late : (xs : List X) → All (λ x. k ≤ f x) xs → (filter early xs ≡ []) × (filter late xs ≡ xs)
  all_late [] all = (refl, refl)
  all_late (x ∷ xs) all =
      let is = All-head (λ (y : X). k ≤ f y) x xs all in
      let rest = all_late xs (All-tail (λ (y : X). k ≤ f y) x xs all) in
      (filter-skip early x xs (le-ltb (f x) k is) ∙ rest.0, filter-keep late x xs (le-leb k (f x) is) ∙ ap (λ l. x ∷ l) rest.1)

  -- the first n are those before the key, and the others those that aren't
  pub halves : (n : ℕ) (xs : List X) → All (λ x. f x < k) (take n xs) → All (λ x. k ≤ f x) (drop n xs) → (filter early xs ≡ take n xs) × (filter late xs ≡ drop n xs)
  halves zero xs before behind = all_late xs behind
  halves (suc n) [] before behind = (refl, refl)
  halves (suc n) (x ∷ xs) before behind =
      let is = All-head (λ (y : X). f y < k) x (take n xs) before in
      let rest = halves n xs (All-tail (λ (y : X). f y < k) x (take n xs) before) behind in
      (filter-keep early x xs (lt-ltb (f x) k is) ∙ ap (λ l. x ∷ l) rest.0, filter-skip late x xs (lt-leb k (f x) is) ∙ rest.1)

-- what holds of each item's image holds of the item
pub All-unmap : {X : Type 0} (f : X → ℕ) (P : ℕ → Type 0) (xs : List X) → All P (map f xs) → All (λ x. P (f x)) xs
All-unmap f P [] all = All-nil (λ x. P (f x))
All-unmap f P (x ∷ xs) all = All-cons (λ y. P (f y)) x xs (All-head P (f x) (map f xs) all) (All-unmap f P xs (All-tail P (f x) (map f xs) all))

-- numbers that rise strictly never fall
pub numbers_never_fall : (xs : List ℕ) → IsStrictlyIncreasing xs → IsNonDecreasingBy (λ (k : ℕ). k) xs
numbers_never_fall xs h i j d le below =
    ⊎_elim
    (λ same. let at : get_or xs i d ≡ get_or xs j d = ap (λ k. get_or xs k d) same in omega (arith, at))
    (λ apart. omega (arith, AllPairs-from_increasing xs h i j d (omega (arith, apart)) below))
    (cases_eq i j)

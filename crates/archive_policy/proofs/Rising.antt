-- Numbers that rise, and lists that rise by a key.
use Rattle.std.proofs.Common.{◌≡◌, ℕ, ◌<◌, ◌≤◌, List, [], ◌∷◌, map, refl, sym, ap, ◌∙◌, arith}
use Rattle.std.specs.Ordering.{nat_cmp}
use Rattle.std.specs.declared.cmp.Ordering.TheVariants.{Less}
use Rattle.std.specs.List.{AllByRecursion, Contains}
use Rattle.std.specs.List.Sorted.{IsStrictlyIncreasing, IsStrictlySortedBy}
use Rattle.std.proofs.Math.Logic.{⊎_elim}
use Rattle.std.proofs.lemmas.Bool.{lt-ltb}
use Rattle.std.proofs.lemmas.Bool.Decides.{nat_tests}
use Rattle.std.proofs.lemmas.Map.Keys.{IsStrictlyIncreasing-from_sorted, sorted_from_strictly_increasing}
use Rattle.archive_policy.proofs.Lists.{Contains-here, Contains-there, Contains-cases, Contains-none}

-- each is above a number
abbrev pub Above : ℕ → List ℕ → Type 0
Above n [] = Unit {0}
Above n (x ∷ xs) = (n < x) × Above n xs

-- each is below those behind it
abbrev pub Rises : List ℕ → Type 0
Rises [] = Unit {0}
Rises (x ∷ xs) = Above x xs × Rises xs

pub Above-lower : (a b : ℕ) (xs : List ℕ) → a ≤ b → Above b xs → Above a xs
Above-lower a b [] le h = tt
Above-lower a b (x ∷ xs) le h = (omega (arith, h.0), Above-lower a b xs le h.1)

all_less : (n : ℕ) (xs : List ℕ) → Above n xs → AllByRecursion (λ y. nat_cmp n y ≡ Less) xs
all_less n [] h = tt
all_less n (x ∷ xs) h = (rw (lt-ltb n x h.0) refl, all_less n xs h.1)

sorted : (xs : List ℕ) → Rises xs → IsStrictlySortedBy nat_cmp xs
unfolding IsStrictlySortedBy
sorted [] h = tt
sorted (x ∷ xs) h = (all_less x xs h.0, sorted xs h.1)

less_than : (a b : ℕ) → nat_cmp a b ≡ Less → a < b
less_than a b h = grind (arith, nat_tests)

all_above : (n : ℕ) (xs : List ℕ) → AllByRecursion (λ y. nat_cmp n y ≡ Less) xs → Above n xs
all_above n [] h = tt
all_above n (x ∷ xs) h = (less_than n x h.0, all_above n xs h.1)

unsorted : (xs : List ℕ) → IsStrictlySortedBy nat_cmp xs → Rises xs
unfolding IsStrictlySortedBy
unsorted [] h = tt
unsorted (x ∷ xs) h = (all_above x xs h.0, unsorted xs h.1)

-- between the two forms of the same fact
pub rising_from_Rises : (xs : List ℕ) → Rises xs → IsStrictlyIncreasing xs
rising_from_Rises xs h = IsStrictlyIncreasing-from_sorted xs (sorted xs h)

pub Rises_from_rising : (xs : List ℕ) → IsStrictlyIncreasing xs → Rises xs
Rises_from_rising xs h = unsorted xs (sorted_from_strictly_increasing xs h)

-- ---- two lists of the same members that rise by a key are one

Above-member : {X : Type 0} (key : X → ℕ) (n : ℕ) (xs : List X) (m : X) → Above n (map key xs) → Contains xs m → n < key m
Above-member key n [] m h c = absurd (Contains-none m c)
Above-member key n (x ∷ xs) m h c =
    ⊎_elim (λ same. omega (arith, h.0, ap key same)) (λ there. Above-member key n xs m h.1 there) (Contains-cases x xs m c)

pub same_rising : {X : Type 0} (key : X → ℕ) (xs ys : List X) → Rises (map key xs) → Rises (map key ys) → ((m : X) → Contains xs m → Contains ys m) → ((m : X) → Contains ys m → Contains xs m) → xs ≡ ys
same_rising key [] [] h k to from = refl
same_rising key [] (y ∷ ys) h k to from = absurd (Contains-none y (from y (Contains-here y ys y refl)))
same_rising key (x ∷ xs) [] h k to from = absurd (Contains-none x (to x (Contains-here x xs x refl)))
same_rising key (x ∷ xs) (y ∷ ys) h k to from =
    let heads : x ≡ y =
    ⊎_elim (λ same. sym same) (λ later. ⊎_elim (λ same. same) (λ above. absurd (omega (arith, Above-member key (key y) ys x k.0 later, Above-member key (key x) xs y h.0 above))) (Contains-cases x xs y (from y (Contains-here y ys y refl)))) (Contains-cases y ys x (to x (Contains-here x xs x refl))) in
    let rest : xs ≡ ys =
    same_rising key xs ys h.1 k.1 (λ m c. ⊎_elim (λ same. absurd (omega (arith, Above-member key (key x) xs m h.0 c, ap key heads, ap key same))) (λ there. there) (Contains-cases y ys m (to m (Contains-there x xs m c)))) (λ m c. ⊎_elim (λ same. absurd (omega (arith, Above-member key (key y) ys m k.0 c, ap key heads, ap key same))) (λ there. there) (Contains-cases x xs m (from m (Contains-there y ys m c)))) in
    ap (λ z. z ∷ xs) heads ∙ ap (λ zs. y ∷ zs) rest

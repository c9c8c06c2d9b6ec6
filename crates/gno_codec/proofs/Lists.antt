-- Lists whose items depend on the one before: the last item, and what rises.
use Rattle.std.proofs.Common.{◌≡◌, ℕ, zero, suc, ◌-◌, true, List, [], ◌∷◌, ◌++◌, length, map, Option, Some, None, Ok, refl, ap, subst, ◌∙◌, arith}
use Rattle.std.specs.Prelude.{slice_get}
use Rattle.std.specs.List.Sorted.{IsStrictlyIncreasing}
use Rattle.std.proofs.lemmas.Bool.{ltb-true, lt-ltb}
use Rattle.std.proofs.lemmas.List.{length_push}
use Rattle.archive_policy.proofs.Rising.{Above, Rises, Above-lower, rising_from_Rises, Rises_from_rising}
use Rattle.gno_codec.specs.Reading.{Unread, Reading, then_at, done, is_above, items_at, last_of}
use Rattle.gno_codec.proofs.Steps.{IsChain, read_ok, ok_is}

get_push : {A : Type 0} (xs : List A) (x : A) → slice_get (xs ++ x ∷ []) (length xs) ≡ Some x
get_push [] x = refl
get_push (y ∷ xs) x = get_push xs x

pub last_push : {A : Type 0} (xs : List A) (x : A) → last_of (xs ++ x ∷ []) ≡ Some x
last_push xs x =
    let n : length (xs ++ x ∷ []) - 1 ≡ length xs = omega (arith, length_push xs x) in
    ap (λ (k : ℕ). slice_get (xs ++ x ∷ []) k) n ∙ get_push xs x

-- ---- what rises by a key

-- above the item before, where there is one
abbrev pub RisesFrom : {A : Type 0} → (A → ℕ) → Option A → List A → Type 0
RisesFrom key before xs = IsChain (λ b x. is_above key b (key x) ≡ true) before xs

above : {A : Type 0} (key : A → ℕ) (x : A) (xs : List A) → RisesFrom key (Some x) xs → Above (key x) (map key xs) × Rises (map key xs)
above key x [] h = (tt, tt)
above key x (y ∷ xs) h =
    let lt = ltb-true (key x) (key y) h.0 in
    let r = above key y xs h.1 in
    ((lt, Above-lower (key x) (key y) (map key xs) (omega arith) r.0), (r.0, r.1))

pub rises : {A : Type 0} (key : A → ℕ) (xs : List A) → RisesFrom key None xs → Rises (map key xs)
rises key [] h = tt
rises key (x ∷ xs) h = let r = above key x xs h.1 in (r.0, r.1)

pub increases : {A : Type 0} (key : A → ℕ) (xs : List A) → RisesFrom key None xs → IsStrictlyIncreasing (map key xs)
increases key xs h = rising_from_Rises (map key xs) (rises key xs h)

from_above : {A : Type 0} (key : A → ℕ) (x : A) (xs : List A) → Above (key x) (map key xs) → Rises (map key xs) → RisesFrom key (Some x) xs
from_above key x [] a r = tt
from_above key x (y ∷ xs) a r = (lt-ltb (key x) (key y) a.0, from_above key y xs r.0 r.1)

pub from_increasing : {A : Type 0} (key : A → ℕ) (xs : List A) → IsStrictlyIncreasing (map key xs) → RisesFrom key None xs
from_increasing key xs h = by xs (Rises_from_rising (map key xs) h)
  where
    by : (xs : List _) → Rises (map key xs) → RisesFrom key None xs
    by [] r = tt
    by (x ∷ xs) r = (refl, from_above key x xs r.0 r.1)

-- what each item is that was read behind another
pub chain_read : {A : Type 0} (item : Option A → Reading A) (P : Option A → A → Type 0) → ((before : Option A) (from : Unread) (x : A) (to : Unread) → item before from ≡ Ok (x, to) → P before x)
    → (n : ℕ) (before : Option A) (from : Unread) (xs : List A) (to : Unread) → items_at item before n from ≡ Ok (xs, to) → IsChain P before xs
unfolding items_at then_at done
chain_read {A} item P each zero before from xs to e =
    let same = ok_is {A = List A × Unread} ([], from) (xs, to) e in
    let Q : List A × Unread → Type 0 = λ z. IsChain P before z.0 in
    subst Q same tt
chain_read {A} item P each (suc n) before from xs to e =
    let a = read_ok (item before from) (λ first. then_at (items_at item (Some first) n) (λ others. done (first ∷ others))) (xs, to) e in
    let b = read_ok (items_at item (Some a.0.0) n a.0.1) (λ others. done (a.0.0 ∷ others)) (xs, to) a.2 in
    let same = ok_is {A = List A × Unread} (a.0.0 ∷ b.0.0, b.0.1) (xs, to) b.2 in
    let Q : List A × Unread → Type 0 = λ z. IsChain P before z.0 in
    subst Q same (each before from a.0.0 a.0.1 a.1, chain_read item P each n (Some a.0.0) a.0.1 b.0.0 b.0.1 b.1)

-- The first segment of a path.
use Rattle.std.proofs.Common.{◌≡◌, ◌≢◌, ℕ, zero, suc, ◌-◌, ◌<◌, List, [], ◌∷◌, ◌++◌, length, false, refl, ap, arith, ◌==◌, get_or}
use Rattle.std.proofs.lemmas.Bool.Decides.{nat_tests}
use Rattle.rest_routes.specs.Path.{segments, longer}

abbrev pub HasNoSlash : List ℕ → Type 0
HasNoSlash s = (i : ℕ) → i < length s → get_or s i 0 ≢ 47

other : (b : ℕ) (s : List ℕ) → HasNoSlash (b ∷ s) → (b == 47) ≡ false
other b s h =
    let n : b ≢ 47 = h 0 (omega arith) in
    grind (arith, nat_tests)

pub segments-front : (s rest : List ℕ) → HasNoSlash s → segments (s ++ 47 ∷ rest) ≡ s ∷ segments rest
segments-front [] rest h = refl
segments-front (b ∷ s) rest h =
    rw (other b s h) (ap (λ z. longer b z) (segments-front s rest (λ i l. h (suc i) (omega arith))))

pub segments-whole : (s : List ℕ) → HasNoSlash s → segments s ≡ s ∷ []
segments-whole [] h = refl
segments-whole (b ∷ s) h =
    rw (other b s h) (ap (λ z. longer b z) (segments-whole s (λ i l. h (suc i) (omega arith))))

less : (n : ℕ) → suc n - 1 ≡ n
less n = omega arith

pub get_or-later : {X : Type 0} (x d : X) (xs : List X) (n : ℕ) → 0 < n → get_or (x ∷ xs) n d ≡ get_or xs (n - 1) d
get_or-later x d xs zero l = elim l [ ]
get_or-later x d xs (suc n) l = rw (less n) refl

pub get_or-one : {X : Type 0} (x d : X) (n : ℕ) → 0 < n → get_or (x ∷ []) n d ≡ d
get_or-one x d zero l = elim l [ ]
get_or-one x d (suc n) l = refl

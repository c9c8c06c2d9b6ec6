-- Powers of ten, and the digits of fractions.
use Rattle.std.proofs.Common.{◌≡◌, ℕ, zero, suc, ◌+◌, ◌-◌, ◌*◌, ◌/◌, ◌%◌, ◌^◌, ◌<◌, ◌≤◌, ◌==◌, if◌then◌else◌, [], ◌∷◌, refl, arith}
use Rattle.std.proofs.Math.Nat.{pow-suc, one-le-pow, pow-le-pow_right}
use Rattle.std.proofs.lemmas.Nat.{div_below}
use Rattle.gno_num.specs.Text.{fraction_digits, padded}

pub pow_ten_above : (k : ℕ) → 0 < 10 ^ k
pow_ten_above k = let least : 1 ≤ 10 ^ k = one-le-pow k 10 (omega arith) in omega arith

pub pow_ten_order : (j k : ℕ) → j ≤ k → 10 ^ j ≤ 10 ^ k
pow_ten_order j k h = pow-le-pow_right {n = 10} (omega arith) h

-- ten of a unit make the unit before it
pub pow_ten_step : (k : ℕ) → 0 < k → 10 ^ k ≡ 10 * 10 ^ (k - 1)
pow_ten_step zero h = absurd (omega arith)
pow_ten_step (suc k) h = let back : suc k - 1 ≡ k = omega arith in rw (back, pow-suc 10 k) (omega arith)

-- the first digit of a fraction is one
pub first_digit : (k n : ℕ) → 0 < k → n < 10 ^ k → n / 10 ^ (k - 1) < 10
first_digit k n h lt =
    div_below n (10 ^ (k - 1)) 10 (pow_ten_above (k - 1)) (rw (← pow_ten_step k h) lt)

-- a fraction's first digit, and those after it
pub fraction_digits_step : (k n : ℕ) → 0 < k → fraction_digits k n ≡ (48 + n / 10 ^ (k - 1)) ∷ (if n % 10 ^ (k - 1) == 0 then [] else fraction_digits (k - 1) (n % 10 ^ (k - 1)))
unfolding fraction_digits
fraction_digits_step zero n h = absurd (omega arith)
fraction_digits_step (suc k) n h = let back : suc k - 1 ≡ k = omega arith in rw back refl

pub padded_step : (k n : ℕ) → 0 < k → padded k n ≡ (48 + n / 10 ^ (k - 1) % 10) ∷ padded (k - 1) n
unfolding padded
padded_step zero n h = absurd (omega arith)
padded_step (suc k) n h = let back : suc k - 1 ≡ k = omega arith in rw back refl

pub padded_none : (n : ℕ) → padded 0 n ≡ []
unfolding padded
padded_none n = refl

-- What a fraction is.
use Rattle.std.specs.Prelude.{ℕ, ◌<◌, ◌≤◌, ◌^◌, ℤ, unsigned_abs, refl}
use Rattle.std.specs.Coded.{Coded, code_by, coded×, coded_ℕ, coded_ℤ}

-- a whole number over another; it isn't reduced
pub record Fraction : Type 0 where
  pub num : ℤ
  pub den : ℕ

-- a denominator above 0, and a numerator of at most 38 zeros
pub record IsFraction (num : ℤ) (den : ℕ) : Type 0 where
  pub above : 0 < den
  pub small : unsigned_abs num ≤ 10 ^ 38

-- a fraction is stored as the pair of its fields
abbrev pub fraction_code : Coded Fraction
fraction_code =
    code_by (ℤ × ℕ) (coded× coded_ℤ coded_ℕ) (λ f. (f.num, f.den)) (λ p. record { num = p.0; den = p.1 }) (λ _. refl)

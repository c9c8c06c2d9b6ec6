-- Rounded quotients.
use Rattle.std.proofs.Common.{◌≡◌, ℕ, zero, suc, ◌+◌, ◌-◌, ◌*◌, ◌/◌, ◌%◌, ◌^◌, ◌<◌, ◌≤◌, nat_le, nat_lt, min, Bool, true, false, if◌then◌else◌, inl, inr, refl, sym, ap, ◌∙◌, arith, ℤ, unsigned_abs, Result, Ok, Err}
use Rattle.std.proofs.lemmas.Bool.{cases_lt, lt-ltb, lt-leb, le-leb}
use Rattle.std.proofs.lemmas.Nat.{div-mul-add, mod_below, div-add-mod'}
use Rattle.gno_num.specs.Number.{Number, numerator, denominator, nearest}
use Rattle.gno_num.specs.Scaled.{scaled_of}
use Rattle.gno_num.specs.Text.{rounded}
use Rattle.gno_num.specs.Value.{signed, units_of, value_of}
use Rattle.gno_num.specs.declared.read.NumFault.{NumFault}
use Rattle.gno_num.specs.declared.read.NumFault.TheVariants.{TooLarge}
use Rattle.gno_num.proofs.DigitLemmas.{pow_ten_above}

double_quotient : (q den r : ℕ) → 2 * (q * den + r) + den ≡ q * (2 * den) + (2 * r + den)
double_quotient q den r = grind arith

next_quotient : (q den r : ℕ) → den ≤ 2 * r → q * (2 * den) + (2 * r + den) ≡ (q + 1) * (2 * den) + (2 * r - den)
next_quotient q den r h = let more : (q + 1) * (2 * den) ≡ q * (2 * den) + 2 * den = grind arith in omega arith

-- one more than the quotient, where half of the divisor or more is left
pub nearest-parts : (num den : ℕ) → 0 < den → nearest num den ≡ num / den + (if nat_le den (2 * (num % den)) then 1 else 0)
nearest-parts num den above =
    let q = num / den in
    let r = num % den in
    let below : r < den = mod_below num den above in
    let parts : num ≡ q * den + r = sym (div-add-mod' num den) in
    let spread : 2 * num + den ≡ q * (2 * den) + (2 * r + den) = ap (λ n. 2 * n + den) parts ∙ double_quotient q den r in
    elim (cases_lt (2 * r) den) [
      | inl lt ↦ rw (lt-leb den (2 * r) lt) (ap (λ n. n / (2 * den)) spread ∙ div-mul-add q (2 * den) (2 * r + den) (omega arith) ∙ omega arith)
      | inr ge ↦ rw (le-leb den (2 * r) ge) (ap (λ n. n / (2 * den)) (spread ∙ next_quotient q den r ge) ∙ div-mul-add (q + 1) (2 * den) (2 * r - den) (omega arith))
    ]

pub rounded-scaled : (num den : ℕ) → 0 < den → min ((scaled_of num den).units + (if (scaled_of num den).is_half then 1 else 0)) (2 ^ 64 - 1) ≡ min (nearest num den) (2 ^ 64 - 1)
unfolding scaled_of
rounded-scaled num den above = rw (nearest-parts num den above) (omega arith)

pub denominator-above : (n : Number) → 0 < denominator n
unfolding denominator
denominator-above n = pow_ten_above _

pub rounded-signed : (negative : Bool) (num den : ℕ) → 0 < den → rounded (signed negative num) den ≡ signed negative (nearest num den)
rounded-signed false num den above = refl
rounded-signed true zero den above =
    let none : nearest 0 den ≡ 0 = ap (λ n. n / (2 * den)) (omega arith) ∙ div-mul-add 0 (2 * den) den (omega arith) in
    rw none refl
rounded-signed true (suc num) den above = refl

pub unsigned_abs-signed : (negative : Bool) (n : ℕ) → unsigned_abs (signed negative n) ≡ n
unsigned_abs-signed false n = refl
unsigned_abs-signed true zero = refl
unsigned_abs-signed true (suc n) = refl

abbrev value_if : Bool → ℕ → Result ℤ NumFault
value_if negative m = if nat_lt (10 ^ 18) m then Err TooLarge else Ok (signed negative m)

-- a magnitude that doesn't fit is too large either way
capped : (negative : Bool) (q : ℕ) → value_if negative (min q (2 ^ 64 - 1)) ≡ value_if negative q
capped negative q =
    elim (cases_lt (2 ^ 64 - 1) q) [
      | inl over ↦ rw (lt-ltb (10 ^ 18) (min q (2 ^ 64 - 1)) (omega arith), lt-ltb (10 ^ 18) q (omega arith)) refl
      | inr fits ↦ let same : min q (2 ^ 64 - 1) ≡ q = omega arith in rw same refl
    ]

pub value_is : (n : Number) → value_if n.negative (min (nearest (numerator 6 n) (denominator n)) (2 ^ 64 - 1)) ≡ value_of n
unfolding value_of units_of
value_is n =
    let q = nearest (numerator 6 n) (denominator n) in
    let units : rounded (signed n.negative (numerator 6 n)) (denominator n) ≡ signed n.negative q = rounded-signed n.negative (numerator 6 n) (denominator n) (denominator-above n) in
    rw (units, unsigned_abs-signed n.negative q) (capped n.negative q)

-- Quotients by powers of ten.
use Rattle.std.proofs.Common.{◌≡◌, ℕ, zero, suc, ◌+◌, ◌-◌, ◌*◌, ◌/◌, ◌%◌, ◌^◌, ◌<◌, ◌≤◌, nat_le, nat_eq, min, Bool, true, false, List, [], ◌∷◌, ◌++◌, length, get_or, inl, inr, refl, sym, ap, ◌∙◌, arith, length-append}
use Rattle.std.specs.Str.{all_ascii_digits}
use Rattle.std.specs.Char.{is_ascii_digit}
use Rattle.std.proofs.Math.Nat.{pow-suc, mul-le-mul, mul-lt-mul_of_pos_right}
use Rattle.std.proofs.lemmas.Bool.{cases_lt, cases_eq, and_parts, lt-leb, le-leb, eq-eqb, ne_eqb}
use Rattle.std.proofs.lemmas.Bool.Decides.{nat_tests}
use Rattle.std.proofs.lemmas.Nat.{div-mul-add, mod-mul-add, mod_below, div-add-mod', pow-add}
use Rattle.gno_num.specs.Digits.{number_onto}
use Rattle.gno_num.specs.Number.{Number, numerator, denominator}
use Rattle.gno_num.specs.Row.{IsShortRow}
use Rattle.gno_num.specs.Scaled.{scaled_of}
use Rattle.gno_num.specs.declared.number.Scaled.{Scaled}
use Rattle.gno_num.proofs.DigitLemmas.{pow_ten_above, pow_ten_order}
use Rattle.gno_num.proofs.RowLemmas.{number_onto-split, number_onto-append, number_onto-short}

abbrev scaled : ℕ → Bool → Bool → Scaled
scaled units is_half is_exact = record { units = units; is_half = is_half; is_exact = is_exact }

same_scaled : (u v : ℕ) (a b c d : Bool) → u ≡ v → a ≡ b → c ≡ d → scaled u a c ≡ scaled v b d
same_scaled u v a b c d e f g = rw (e, f, g) refl

-- two tests of numbers that mean the same are equal
same_order : (a b c d : ℕ) → (a ≤ b → c ≤ d) → (c ≤ d → a ≤ b) → nat_le a b ≡ nat_le c d
same_order a b c d to from =
    elim (cases_lt b a) [
      | inl over ↦ lt-leb a b over ∙ sym (lt-leb c d (elim (cases_lt d c) [
        | inl lt ↦ lt
        | inr le ↦ absurd (omega (arith, from le))
      ]))
      | inr le ↦ le-leb a b le ∙ sym (le-leb c d (to le))
    ]

same_zero : (a b : ℕ) → (a ≡ 0 → b ≡ 0) → (b ≡ 0 → a ≡ 0) → nat_eq a 0 ≡ nat_eq b 0
same_zero a b to from =
    elim (cases_eq b 0) [
      | inl is ↦ eq-eqb a 0 (from is) ∙ sym (eq-eqb b 0 is)
      | inr not ↦ ne_eqb a 0 (λ e. not (to e)) ∙ sym (ne_eqb b 0 not)
    ]

-- a quotient and its rest
pub scaled_is : (q den r : ℕ) → r < den → scaled_of (q * den + r) den ≡ scaled (min q (2 ^ 64 - 1)) (nat_le den (2 * r)) (nat_eq r 0)
unfolding scaled_of
scaled_is q den r below = rw (div-mul-add q den r below, mod-mul-add q den r below) refl

whole_is : (q den : ℕ) → 0 < den → scaled_of (q * den) den ≡ scaled (min q (2 ^ 64 - 1)) false true
whole_is q den above =
    let none : q * den ≡ q * den + 0 = omega arith in
    let far : nat_le den (2 * 0) ≡ false = lt-leb den (2 * 0) (omega arith) in
    ap (λ n. scaled_of n den) none ∙ scaled_is q den 0 above ∙ same_scaled _ _ _ _ _ _ refl far refl

pub whole_number : (n : ℕ) → scaled_of n 1 ≡ scaled (min n (2 ^ 64 - 1)) false true
whole_number n = let same : n ≡ n * 1 = omega arith in ap (λ m. scaled_of m 1) same ∙ whole_is n 1 (omega arith)

product_assoc : (a b c : ℕ) → a * (b * c) ≡ a * b * c
product_assoc a b c = grind arith

-- a power that goes into the numerator
pub scaled_of-raised : (d up down : ℕ) → down ≤ up → scaled_of (d * 10 ^ up) (10 ^ down) ≡ scaled_of (d * 10 ^ (up - down)) 1
scaled_of-raised d up down le =
    let parts : up ≡ (up - down) + down = omega arith in
    let power : 10 ^ up ≡ 10 ^ (up - down) * 10 ^ down = ap (λ n. 10 ^ n) parts ∙ pow-add 10 (up - down) down in
    let moved : d * 10 ^ up ≡ d * 10 ^ (up - down) * 10 ^ down = ap (λ n. d * n) power ∙ product_assoc d (10 ^ (up - down)) (10 ^ down) in
    ap (λ n. scaled_of n (10 ^ down)) moved ∙ whole_is (d * 10 ^ (up - down)) (10 ^ down) (pow_ten_above down) ∙ sym (whole_number (d * 10 ^ (up - down)))

spread_quotient : (q k r p : ℕ) → (q * k + r) * p ≡ q * (k * p) + r * p
spread_quotient q k r p = grind arith

order_of_products : (a b p : ℕ) → a * p ≤ b * p → 0 < p → a ≤ b
order_of_products a b p h above =
    elim (cases_lt b a) [
      | inl lt ↦ let less : b * p < a * p = mul-lt-mul_of_pos_right lt above in absurd (omega arith)
      | inr ge ↦ ge
    ]

zero_of_product : (r p : ℕ) → r * p ≡ 0 → 0 < p → r ≡ 0
zero_of_product zero p h above = refl
zero_of_product (suc r) p h above =
    let less : 0 * p < suc r * p = mul-lt-mul_of_pos_right (omega arith) above in
    absurd (omega arith)

-- numerator and denominator by the same factor
pub scaled_of-cancel : (d k p : ℕ) → 0 < k → 0 < p → scaled_of (d * p) (k * p) ≡ scaled_of d k
scaled_of-cancel d k p hk hp =
    let q = d / k in
    let r = d % k in
    let parts : d ≡ q * k + r = sym (div-add-mod' d k) in
    let below : r < k = mod_below d k hk in
    let moved : d * p ≡ q * (k * p) + r * p = ap (λ n. n * p) parts ∙ spread_quotient q k r p in
    let less : r * p < k * p = mul-lt-mul_of_pos_right below hp in
    let half = same_order (k * p) (2 * (r * p)) k (2 * r) (λ h. order_of_products k (2 * r) p (rw (← product_assoc 2 r p) h) hp) (λ h. rw (product_assoc 2 r p) (mul-le-mul h (omega arith))) in
    let exact = same_zero (r * p) r (λ h. zero_of_product r p h hp) (λ h. let none : 0 * p ≡ 0 = omega arith in rw h none) in
    ap (λ n. scaled_of n (k * p)) moved ∙ scaled_is q (k * p) (r * p) less ∙ same_scaled _ _ _ _ _ _ refl half exact ∙ sym (ap (λ n. scaled_of n k) parts ∙ scaled_is q k r below)

-- what a factor and a quotient by powers of ten leave
pub scaled_of-lowered : (d up down : ℕ) → up ≤ down → scaled_of (d * 10 ^ up) (10 ^ down) ≡ scaled_of d (10 ^ (down - up))
scaled_of-lowered d up down le =
    let parts : down ≡ (down - up) + up = omega arith in
    let power : 10 ^ down ≡ 10 ^ (down - up) * 10 ^ up = ap (λ n. 10 ^ n) parts ∙ pow-add 10 (down - up) up in
    ap (λ n. scaled_of (d * 10 ^ up) n) power ∙ scaled_of-cancel d (10 ^ (down - up)) (10 ^ up) (pow_ten_above (down - up)) (pow_ten_above up)

above : (d : ℕ) → (d ≡ 0 → ⊥) → 0 < d
above d h = omega arith

-- a large factor leaves nothing of a number, or more than fits
large : (d a : ℕ) → 20 ≤ a → 0 < d → min (d * 10 ^ a) (2 ^ 64 - 1) ≡ 2 ^ 64 - 1
large d a far some =
    let power : 10 ^ 20 ≤ 10 ^ a = pow_ten_order 20 a far in
    let least : 1 * 10 ^ a ≤ d * 10 ^ a = mul-le-mul some (omega arith) in
    omega arith

pub scaled_of-large : (d a b : ℕ) → 20 ≤ a → 20 ≤ b → scaled_of (d * 10 ^ a) 1 ≡ scaled_of (d * 10 ^ b) 1
scaled_of-large d a b h k =
    elim (cases_eq d 0) [
      | inl none ↦ let left : d * 10 ^ a ≡ 0 = rw none (omega arith) in let right : d * 10 ^ b ≡ 0 = rw none (omega arith) in ap (λ n. scaled_of n 1) (left ∙ sym right)
      | inr some ↦ whole_number (d * 10 ^ a) ∙ same_scaled _ _ _ _ _ _ (large d a h (above d some) ∙ sym (large d b k (above d some))) refl refl ∙ sym (whole_number (d * 10 ^ b))
    ]

-- a large divisor leaves the whole number behind
small : (d a len : ℕ) → d < 10 ^ len → len < a → scaled_of d (10 ^ a) ≡ scaled 0 false (nat_eq d 0)
small d a len below far =
    let more : 10 ^ suc len ≤ 10 ^ a = pow_ten_order (suc len) a far in
    let ten : 10 ^ suc len ≡ 10 ^ len * 10 = pow-suc 10 len in
    let none : d ≡ 0 * 10 ^ a + d = omega arith in
    let less : d < 10 ^ a = omega arith in
    let half : nat_le (10 ^ a) (2 * d) ≡ false = lt-leb (10 ^ a) (2 * d) (omega arith) in
    ap (λ n. scaled_of n (10 ^ a)) none ∙ scaled_is 0 (10 ^ a) d less ∙ same_scaled _ _ _ _ _ _ refl half refl

pub scaled_of-short : (row : List ℕ) (a : ℕ) → all_ascii_digits row ≡ true → length row < a → scaled_of (number_onto 0 row) (10 ^ a) ≡ scaled 0 false (nat_eq (number_onto 0 row) 0)
scaled_of-short row a digits far =
    small (number_onto 0 row) a (length row) (number_onto-short row digits) far

-- whether a row is zero can be seen from the number that fits
pub zero_row : (n : ℕ) → nat_eq (min n (2 ^ 64 - 1)) 0 ≡ nat_eq n 0
zero_row n = same_zero (min n (2 ^ 64 - 1)) n (λ h. omega arith) (λ h. omega arith)

pub digit_range : (c : ℕ) → is_ascii_digit c ≡ true → (48 ≤ c) × (c ≤ 57)
digit_range c h = grind (arith, nat_tests)

half_digit : (x p v c : ℕ) (q : ℕ) (n : ℕ) → q ≡ p * 10 → n ≡ x * p + v → v < p → x ≡ c - 48 → 48 ≤ c → c ≤ 57 → nat_le q (2 * n) ≡ nat_le 53 c
half_digit x p v c q n whole parts below digit low high =
    elim (cases_lt c 53) [
      | inl lt ↦ let most : x * p ≤ 4 * p = mul-le-mul (omega arith) (omega arith) in lt-leb q (2 * n) (omega arith) ∙ sym (lt-leb 53 c lt)
      | inr ge ↦ let least : 5 * p ≤ x * p = mul-le-mul (omega arith) (omega arith) in le-leb q (2 * n) (omega arith) ∙ sym (le-leb 53 c ge)
    ]

-- half a unit begins with the digit 5
half_row : (row : List ℕ) → all_ascii_digits row ≡ true → 0 < length row → nat_le (10 ^ length row) (2 * number_onto 0 row) ≡ nat_le 53 (get_or row 0 48)
half_row [] h some = absurd (omega arith)
half_row (c ∷ cs) h some =
    let parts = and_parts (is_ascii_digit c) (all_ascii_digits cs) h in
    let digit = digit_range c parts.0 in
    let number : number_onto 0 (c ∷ cs) ≡ (c - 48) * 10 ^ length cs + number_onto 0 cs = let same : 10 * 0 + (c - 48) ≡ c - 48 = omega arith in ap (λ (n : ℕ). number_onto n cs) same ∙ number_onto-split (c - 48) cs in
    half_digit (c - 48) (10 ^ length cs) (number_onto 0 cs) c (10 ^ suc (length cs)) (number_onto 0 (c ∷ cs)) (pow-suc 10 (length cs)) number (number_onto-short cs parts.1) refl digit.0 digit.1

-- the number in front of a cut, and what is left behind it
pub cut_is : (kept left : List ℕ) → all_ascii_digits left ≡ true → 0 < length left → scaled_of (number_onto 0 (kept ++ left)) (10 ^ length left) ≡ scaled (min (number_onto 0 kept) (2 ^ 64 - 1)) (nat_le 53 (get_or left 0 48)) (nat_eq (min (number_onto 0 left) (2 ^ 64 - 1)) 0)
cut_is kept left digits some =
    let parts = number_onto-append 0 kept left ∙ number_onto-split (number_onto 0 kept) left in
    let below = number_onto-short left digits in
    ap (λ n. scaled_of n (10 ^ length left)) parts ∙ scaled_is (number_onto 0 kept) (10 ^ length left) (number_onto 0 left) below ∙ same_scaled _ _ _ _ _ _ refl (half_row left digits some) (sym (zero_row (number_onto 0 left)))

tenfold : (n p : ℕ) → n * (p * 10) ≡ 10 * (n * p)
tenfold n p = grind arith

pub one_more_power : (n k : ℕ) → n * 10 ^ (k + 1) ≡ 10 * (n * 10 ^ k)
one_more_power n k =
    let next : k + 1 ≡ suc k = omega arith in
    let power : 10 ^ (k + 1) ≡ 10 ^ k * 10 = ap (λ m. 10 ^ m) next ∙ pow-suc 10 k in
    ap (λ m. n * m) power ∙ tenfold n (10 ^ k)

pub same_units : (u v : ℕ) → u ≡ v → scaled u false true ≡ scaled v false true
same_units u v e = same_scaled u v _ _ _ _ e refl refl

-- a large exponent may be taken for a smaller one
pub scaled_of-raising : (d f p e exponent : ℕ) → e ≡ min exponent 100 → f ≤ 64 → scaled_of (d * 10 ^ (p + e)) (10 ^ f) ≡ scaled_of (d * 10 ^ (p + exponent)) (10 ^ f)
scaled_of-raising d f p e exponent is short =
    elim (cases_lt 100 exponent) [
      | inl far ↦ scaled_of-raised d (p + e) f (omega arith) ∙ scaled_of-large d (p + e - f) (p + exponent - f) (omega arith) (omega arith) ∙ sym (scaled_of-raised d (p + exponent) f (omega arith))
      | inr near ↦ let same : e ≡ exponent = omega arith in ap (λ n. scaled_of (d * 10 ^ (p + n)) (10 ^ f)) same
    ]

pub scaled_of-lowering : (row : List ℕ) (f p e exponent : ℕ) → e ≡ min exponent 100 → p ≤ 16 → all_ascii_digits row ≡ true → length row ≤ 64 → scaled_of (number_onto 0 row * 10 ^ p) (10 ^ (f + e)) ≡ scaled_of (number_onto 0 row * 10 ^ p) (10 ^ (f + exponent))
scaled_of-lowering row f p e exponent is few digits short =
    let d = number_onto 0 row in
    elim (cases_lt 100 exponent) [
      | inl far ↦ scaled_of-lowered d p (f + e) (omega arith) ∙ scaled_of-short row (f + e - p) digits (omega arith) ∙ sym (scaled_of-lowered d p (f + exponent) (omega arith) ∙ scaled_of-short row (f + exponent - p) digits (omega arith))
      | inr near ↦ let same : e ≡ exponent = omega arith in ap (λ n. scaled_of (d * 10 ^ p) (10 ^ (f + n))) same
    ]

abbrev row_of : Number → List ℕ
row_of n = n.whole ++ n.fraction

-- the value of a token with an exponent that lowers it, and of another
pub scaled-lowers : (n : Number) (p e : ℕ) → n.lowers ≡ true → e ≡ min (number_onto 0 n.exponent) 100 → p ≤ 16 → IsShortRow (row_of n) → scaled_of (number_onto 0 (row_of n) * 10 ^ p) (10 ^ (length n.fraction + e)) ≡ scaled_of (numerator p n) (denominator n)
unfolding numerator denominator
scaled-lowers n p e lowers is few row =
    let same : p + 0 ≡ p = omega arith in
    rw (lowers, same) (scaled_of-lowering (row_of n) (length n.fraction) p e (number_onto 0 n.exponent) is few row.digits row.short)

pub scaled-raises : (n : Number) (p e : ℕ) → n.lowers ≡ false → e ≡ min (number_onto 0 n.exponent) 100 → IsShortRow (row_of n) → scaled_of (number_onto 0 (row_of n) * 10 ^ (p + e)) (10 ^ length n.fraction) ≡ scaled_of (numerator p n) (denominator n)
unfolding numerator denominator
scaled-raises n p e raises is row =
    let same : length n.fraction + 0 ≡ length n.fraction = omega arith in
    rw (raises, same) (scaled_of-raising (number_onto 0 (row_of n)) (length n.fraction) p e (number_onto 0 n.exponent) is (omega (arith, row.short, length-append n.whole n.fraction)))

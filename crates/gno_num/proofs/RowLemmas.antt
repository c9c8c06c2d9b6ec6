-- Rows of digits and the numbers that they spell.
use Rattle.std.proofs.Common.{◌≡◌, ℕ, suc, ◌+◌, ◌-◌, ◌*◌, ◌^◌, ◌<◌, ◌≤◌, min, true, List, [], ◌∷◌, ◌++◌, length, inl, inr, refl, arith, rules, append_assoc, ◌==◌, ◌⊎◌}
use Rattle.std.specs.Str.{all_ascii_digits}
use Rattle.std.proofs.Math.Nat.{pow-suc}
use Rattle.std.specs.Char.{is_ascii_digit}
use Rattle.std.proofs.lemmas.Bool.{cases_lt, cases_Bool, and_parts, and_from, ne_eqb}
use Rattle.std.proofs.lemmas.List.{append-nil}
use Rattle.std.proofs.lemmas.Str.Parse.{IsNumeralModel, numerals_by_fold, digits_value_short}
use Rattle.gno_num.specs.Digits.{number_onto, digits_front, digits_back, without_front}

pub number_onto-least : (n : ℕ) (ds : List ℕ) → n ≤ number_onto n ds
number_onto-least n [] = omega arith
number_onto-least n (c ∷ cs) = omega (arith, number_onto-least (10 * n + (c - 48)) cs)

-- what is over a limit stays over it
pub number_onto-min : (n m : ℕ) (ds : List ℕ) → min (number_onto (min n m) ds) m ≡ min (number_onto n ds) m
number_onto-min n m ds =
    elim (cases_lt m n) [
      | inl over ↦ omega (arith, number_onto-least n ds, number_onto-least (min n m) ds)
      | inr within ↦ let same : min n m ≡ n = omega arith in rw same refl
    ]

pub number_onto-append : (n : ℕ) (xs ys : List ℕ) → number_onto n (xs ++ ys) ≡ number_onto (number_onto n xs) ys
number_onto-append n [] ys = refl
number_onto-append n (x ∷ xs) ys = number_onto-append (10 * n + (x - 48)) xs ys

spread : (n d p v : ℕ) → (10 * n + d) * p + v ≡ n * (p * 10) + (d * p + v)
spread n d p v = grind arith

-- the digits in front are moved up by the places behind them
pub number_onto-split : (n : ℕ) (ds : List ℕ) → number_onto n ds ≡ n * 10 ^ length ds + number_onto 0 ds
number_onto-split n [] = omega arith
number_onto-split n (c ∷ cs) =
    let whole = number_onto-split (10 * n + (c - 48)) cs in
    let digit = number_onto-split (c - 48) cs in
    let same : 0 + (c - 48) ≡ c - 48 = omega arith in
    rw (pow-suc 10 (length cs), same, digit, whole) (spread n (c - 48) (10 ^ length cs) (number_onto 0 cs))

-- digits are a model of std's numerals
pub own : IsNumeralModel (λ ds. all_ascii_digits ds ≡ true) (number_onto 0)
own = numerals_by_fold _ (search rules) number_onto (search rules)

pub number_onto-short : (ds : List ℕ) → all_ascii_digits ds ≡ true → number_onto 0 ds < 10 ^ length ds
number_onto-short ds h = digits_value_short own ds (length ds) h (omega arith)

pub digits_front-all : (cs : List ℕ) → all_ascii_digits (digits_front cs) ≡ true
digits_front-all [] = refl
digits_front-all (c ∷ cs) =
    elim (cases_Bool (is_ascii_digit c)) [
      | inl is ↦ rw (is, digits_front-all cs) (and_from (is_ascii_digit c) true is refl)
      | inr not ↦ rw not refl
    ]

pub digits-length : (cs : List ℕ) → length (digits_front cs) + length (digits_back cs) ≡ length cs
digits-length [] = omega arith
digits-length (c ∷ cs) =
    elim (cases_Bool (is_ascii_digit c)) [
      | inl is ↦ rw is (omega (arith, digits-length cs))
      | inr not ↦ rw not (omega arith)
    ]

pub without_front-length : (b : ℕ) (cs : List ℕ) → length (without_front b cs) ≤ length cs
without_front-length b [] = omega arith
without_front-length b (c ∷ cs) =
    elim (cases_Bool (c == b)) [
      | inl is ↦ rw is (omega arith)
      | inr not ↦ rw not (omega arith)
    ]

pub digits_back-none : (cs : List ℕ) → (length (digits_back cs) == 0) ≡ all_ascii_digits cs
digits_back-none [] = refl
digits_back-none (c ∷ cs) =
    elim (cases_Bool (is_ascii_digit c)) [
      | inl is ↦ rw is (digits_back-none cs)
      | inr not ↦ rw not (ne_eqb (suc (length cs)) 0 (λ e. absurd (omega arith)))
    ]

pub ruleset digits_are_digits = (digits_front-all, digits-length, digits_back-none)

pub all_ascii_digits-append : (xs ys : List ℕ) → all_ascii_digits xs ≡ true → all_ascii_digits ys ≡ true → all_ascii_digits (xs ++ ys) ≡ true
all_ascii_digits-append [] ys h k = k
all_ascii_digits-append (x ∷ xs) ys h k =
    let parts = and_parts (is_ascii_digit x) (all_ascii_digits xs) h in
    rw (parts.0, all_ascii_digits-append xs ys parts.1 k) refl

pub all_ascii_digits-back : (xs ys : List ℕ) → all_ascii_digits (xs ++ ys) ≡ true → all_ascii_digits ys ≡ true
all_ascii_digits-back [] ys h = h
all_ascii_digits-back (x ∷ xs) ys h =
    all_ascii_digits-back xs ys (and_parts (is_ascii_digit x) (all_ascii_digits (xs ++ ys)) h).1

-- a row of no digits
pub no_digits : (xs : List ℕ) → length xs ≡ 0 → xs ≡ []
no_digits [] h = refl
no_digits (x ∷ xs) h = absurd (omega arith)

-- a cut lies in the first of two rows, or in the second
pub regrouped : (kept left more others : List ℕ) → (length more ≡ 0) ⊎ (length left ≡ 0) → (kept ++ left) ++ (more ++ others) ≡ (kept ++ more) ++ (left ++ others)
regrouped kept left more others (inl none) =
    rw (no_digits more none, append-nil kept, append_assoc kept left others) refl
regrouped kept left more others (inr none) =
    rw (no_digits left none, append-nil kept, append_assoc kept more others) refl

-- Numbers in words, and their decimal texts.
use Rattle.std.proofs.Common.{◌≡◌, ◌≢◌, ◌↔◌, ℕ, zero, suc, ◌^◌, ◌<◌, ◌≤◌, ◌==◌, ◌&&◌, Bool, true, false, cond, List, [], ◌∷◌, length, get_or, Option, Some, None, Result, refl, sym, ap, subst, ◌∙◌, arith, nat_le, not}
use Rattle.std.specs.Char.{is_ascii_digit}
use Rattle.std.specs.Fmt.{decimal}
use Rattle.std.specs.Result.{OkIff}
use Rattle.std.specs.Str.{all_ascii_digits}
use Rattle.std.specs.Str.Parse.{digits_value, ParsesUnsigned}
use Rattle.std.proofs.lemmas.Bool.{leb-true, le-leb}
use Rattle.std.proofs.lemmas.Bool.Decides.{nat_tests}
use Rattle.std.proofs.lemmas.Fmt.{decimal-digits_value, decimal_digit, decimal_nonempty, digits_decimal, digits_value-decimal, first_decimal}
use Rattle.std.proofs.lemmas.Option.{none-some, same_Some}
use Rattle.std.proofs.lemmas.Str.Parse.{IsNumeralModel, numerals_by_value, parse_digits, tells_all_ascii_digits}
use Rattle.command_line.specs.Number.{is_decimal, number_within}

pub own : IsNumeralModel (λ ds. all_ascii_digits ds ≡ true) (digits_value 10)
own = numerals_by_value (λ ds. all_ascii_digits ds ≡ true) tells_all_ascii_digits

pub first_true : (a b : Bool) → (a && b) ≡ true → a ≡ true
first_true true b is = refl
first_true false b is = cc

pub second_true : (a b : Bool) → (a && b) ≡ true → b ≡ true
second_true true b is = is
second_true false b is = cc

-- a number's word has digits alone
pub digits_alone : (word : List ℕ) → is_decimal word ≡ true → all_ascii_digits word ≡ true
digits_alone [] is = cc
digits_alone (digit ∷ []) is = ap (λ b. b && true) is
digits_alone (digit ∷ next ∷ digits) is = second_true (not (digit == 48)) (all_ascii_digits (digit ∷ next ∷ digits)) is

pub digits_some : (word : List ℕ) → is_decimal word ≡ true → 0 < length word
digits_some [] is = cc
digits_some (digit ∷ digits) is = omega arith

-- what parsing gives of a number's word
pub parsed : {E : Type 0} (word : List ℕ) (result : Result ℕ E) → is_decimal word ≡ true → ParsesUnsigned 64 10 word result → OkIff result ((0 < length word) × (digits_value 10 word < 2 ^ 64)) (digits_value 10 word)
parsed word result is parses = parse_digits own 64 word result parses (digits_alone word is)

abbrev number_by : Bool → Bool → Bool → ℕ → Option ℕ
number_by a b c n = cond (a && (b && c)) (Some n) None

pub no_number : (least most : ℕ) (word : List ℕ) → is_decimal word ≡ false → number_within least most word ≡ None
no_number least most word is = ap (λ b. number_by b (nat_le least (digits_value 10 word)) (nat_le (digits_value 10 word) most) (digits_value 10 word)) is

pub within : (least most : ℕ) (word : List ℕ) → is_decimal word ≡ true → least ≤ digits_value 10 word → digits_value 10 word ≤ most → number_within least most word ≡ Some (digits_value 10 word)
within least most word is low high =
    let n = digits_value 10 word in
    ap (λ b. number_by b (nat_le least n) (nat_le n most) n) is
    ∙ ap (λ b. number_by true b (nat_le n most) n) (le-leb least n low)
    ∙ ap (λ b. number_by true true b n) (le-leb n most high)

-- what is read is in the limits
pub read_within : (least most : ℕ) (word : List ℕ) (n : ℕ) → number_within least most word ≡ Some n → (is_decimal word ≡ true) × (n ≡ digits_value 10 word) × (least ≤ n) × (n ≤ most)
read_within least most word n is = by (is_decimal word) (nat_le least v) (nat_le v most) refl refl refl is
  where
    v : ℕ
    v = digits_value 10 word

    by : (a b c : Bool) → is_decimal word ≡ a → nat_le least (digits_value 10 word) ≡ b → nat_le (digits_value 10 word) most ≡ c → number_by a b c (digits_value 10 word) ≡ Some n → (is_decimal word ≡ true) × (n ≡ digits_value 10 word) × (least ≤ n) × (n ≤ most)
    by false b c p q r found = absurd (none-some n found)
    by true false c p q r found = absurd (none-some n found)
    by true true false p q r found = absurd (none-some n found)
    by true true true p q r found =
        let same = same_Some (digits_value 10 word) n found in
        let low = leb-true least (digits_value 10 word) q in
        let high = leb-true (digits_value 10 word) most r in
        (p, sym same, omega (arith, same, low), omega (arith, same, high))

-- too small, too large
pub outside : (least most : ℕ) (word : List ℕ) → (least ≤ digits_value 10 word → digits_value 10 word ≤ most → ⊥) → number_within least most word ≡ None
outside least most word not_both = by (number_within least most word) refl
  where
    by : (found : Option ℕ) → number_within least most word ≡ found → found ≡ None
    by None is = refl
    by (Some n) is =
        let r = read_within least most word n is in
        absurd (not_both (omega (arith, r.1, r.2)) (omega (arith, r.1, r.3)))

-- a decimal text is a number's word
pub decimal_is : (word : List ℕ) (n : ℕ) → n < 2 ^ 64 → word ≡ decimal n → is_decimal word ≡ true
decimal_is [] n small is = let some = decimal_nonempty n small in let e : 0 ≡ length (decimal n) = ap length is in absurd (omega arith)
decimal_is (digit ∷ []) n small is =
    first_true (is_ascii_digit digit) true (subst (λ ds. all_ascii_digits ds ≡ true) (sym is) (digits_decimal own n small))
decimal_is (digit ∷ next ∷ digits) n small is =
    let all : all_ascii_digits (digit ∷ next ∷ digits) ≡ true = subst (λ ds. all_ascii_digits ds ≡ true) (sym is) (digits_decimal own n small) in
    ap (λ b. not b && all_ascii_digits (digit ∷ next ∷ digits)) (by n small is) ∙ all
  where
    by : (n : ℕ) → n < 2 ^ 64 → digit ∷ next ∷ digits ≡ decimal n → (digit == 48) ≡ false
    by zero small is = let e : suc (suc (length digits)) ≡ 1 = ap length (is ∙ decimal_digit 0 (omega arith)) in absurd (omega arith)
    by (suc n) small is =
        let first = first_decimal (suc n) (omega arith) small in
        let same : digit ≡ get_or (decimal (suc n)) 0 0 = ap (λ ds. get_or ds 0 0) is in
        let other : digit ≢ 48 = λ e. absurd (omega arith) in
        grind (arith, nat_tests)

-- a number's word is its decimal text
pub is_text : (word : List ℕ) → is_decimal word ≡ true → digits_value 10 word < 2 ^ 64 → word ≡ decimal (digits_value 10 word)
is_text word is small = sym (decimal-digits_value own word (digits_alone word is) (digits_some word is) (zero_alone word is) small)
  where
    zero_alone : (word : List ℕ) → is_decimal word ≡ true → get_or word 0 0 ≡ 48 → length word ≡ 1
    zero_alone [] is first = cc
    zero_alone (digit ∷ []) is first = refl
    zero_alone (digit ∷ next ∷ digits) is first =
        let other = first_true (not (digit == 48)) (all_ascii_digits (digit ∷ next ∷ digits)) is in
        let same : not (digit == 48) ≡ false = ap (λ (b : ℕ). not (b == 48)) first in
        cc

pub decimals : (least most n : ℕ) (word : List ℕ) → most < 2 ^ 64 → (number_within least most word ≡ Some n) ↔ ((word ≡ decimal n) × (least ≤ n) × (n ≤ most))
decimals least most n word large = (there, back)
  where
    there : number_within least most word ≡ Some n → (word ≡ decimal n) × (least ≤ n) × (n ≤ most)
    there is =
        let r = read_within least most word n is in
        (is_text word r.0 (omega (arith, r.1, r.3)) ∙ ap decimal (sym r.1), r.2, r.3)

    back : (word ≡ decimal n) × (least ≤ n) × (n ≤ most) → number_within least most word ≡ Some n
    back (is, low, high) =
        let value : digits_value 10 word ≡ n = ap (digits_value 10) is ∙ digits_value-decimal own n (omega arith) in
        within least most word (decimal_is word n (omega arith) is) (omega arith) (omega arith) ∙ ap (λ (m : ℕ). Some m) value

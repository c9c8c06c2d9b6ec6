-- What is printed is read back.
use Rattle.std.proofs.Common.{◌≡◌, ℕ, zero, suc, ◌+◌, ◌-◌, ◌*◌, ◌/◌, ◌%◌, ◌^◌, ◌<◌, ◌≤◌, ◌==◌, nat_lt, Bool, true, false, if◌then◌else◌, List, [], ◌∷◌, ◌++◌, length, Option, None, Some, Ok, Err, ◌↔◌, inl, inr, refl, sym, ap, ◌∙◌, arith, ℤ, pos, negsuc, unsigned_abs, length-append}
use Rattle.std.specs.Str.{all_ascii_digits}
use Rattle.std.specs.Char.{is_ascii_digit}
use Rattle.std.specs.Fmt.{decimal}
use Rattle.std.proofs.Math.Nat.{pow-suc}
use Rattle.std.proofs.lemmas.Bool.{cases_Bool, cases_eq, and_from, le-leb, le-ltb, lt-ltb, cases_lt, eqb-true}
use Rattle.std.proofs.lemmas.List.{append-nil}
use Rattle.std.proofs.lemmas.Fmt.{digits_decimal, digits_value-decimal, decimal_nonempty, decimal_digit, first_decimal, length-decimal-le}
use Rattle.std.proofs.lemmas.Nat.{div_below, mod_below, div-add-mod', div-mul-add}
use Rattle.gno_num.specs.Digits.{number_onto}
use Rattle.gno_num.specs.Number.{Number, IsWhole, IsNumber, sign_text, numerator, denominator, nearest}
use Rattle.gno_num.specs.Reading.{number_of}
use Rattle.gno_num.specs.Text.{fraction_digits, point_text, units_text}
use Rattle.gno_num.specs.Value.{signed, units_of, value_of, value_of_token, value_read}
use Rattle.gno_num.specs.declared.read.NumFault.TheVariants.{TooLong, NotANumber, TooLarge}
use Rattle.gno_num.proofs.DigitLemmas.{pow_ten_above}
use Rattle.gno_num.proofs.RowLemmas.{own, number_onto-split, number_onto-append}
use Rattle.gno_num.proofs.ValueLemmas.{rounded-signed, unsigned_abs-signed, denominator-above}
use Rattle.gno_num.proofs.GrammarLemmas.{number_complete, number_sound}

pub digit_is : (q : ℕ) → q < 10 → is_ascii_digit (48 + q) ≡ true
digit_is q h = and_from _ _ (le-leb 48 (48 + q) (omega arith)) (le-leb (48 + q) 57 (omega arith))

-- the digits of a fraction behind the first
abbrev tail_of : ℕ → ℕ → List ℕ
tail_of k r = if r == 0 then [] else fraction_digits k r

head_below : (k f : ℕ) → f < 10 ^ suc k → f / 10 ^ k < 10
head_below k f h = div_below f (10 ^ k) 10 (pow_ten_above k) (let ten : 10 ^ suc k ≡ 10 ^ k * 10 = pow-suc 10 k in omega arith)

pub fraction_digits-all : (k f : ℕ) → f < 10 ^ k → all_ascii_digits (fraction_digits k f) ≡ true
unfolding fraction_digits
fraction_digits-all zero f h = refl
fraction_digits-all (suc k) f h =
    let r = f % 10 ^ k in
    and_from _ _ (digit_is (f / 10 ^ k) (head_below k f h)) (elim (cases_Bool (r == 0)) [
      | inl none ↦ rw none refl
      | inr some ↦ rw some (fraction_digits-all k r (mod_below f (10 ^ k) (pow_ten_above k)))
    ])

pub length-fraction_digits : (k f : ℕ) → length (fraction_digits k f) ≤ k
unfolding fraction_digits
length-fraction_digits zero f = omega arith
length-fraction_digits (suc k) f =
    let r = f % 10 ^ k in
    elim (cases_Bool (r == 0)) [
      | inl none ↦ rw none (omega arith)
      | inr some ↦ rw some (omega (arith, length-fraction_digits k r))
    ]

pub fraction_digits-some : (k f : ℕ) → 0 < k → 0 < length (fraction_digits k f)
unfolding fraction_digits
fraction_digits-some zero f h = absurd (omega arith)
fraction_digits-some (suc k) f h = omega arith

first_alone : (q p f : ℕ) → f ≡ q * p + 0 → q * (p * 10) ≡ f * 10
first_alone q p f h = rw h (grind arith)

left_side : (q p len n : ℕ) → (q * len + n) * (p * 10) ≡ q * p * len * 10 + n * p * 10
left_side q p len n = grind arith

right_side : (q p len r : ℕ) → (q * p + r) * (len * 10) ≡ q * p * len * 10 + r * len * 10
right_side q p len r = grind arith

first_and_rest : (q p f r len n : ℕ) → f ≡ q * p + r → n * p ≡ r * len → (q * len + n) * (p * 10) ≡ f * (len * 10)
first_and_rest q p f r len n h k = rw (h, left_side q p len n, right_side q p len r, k) refl

-- a fraction's digits, moved up to its places
pub number-fraction_digits : (k f : ℕ) → f < 10 ^ k → number_onto 0 (fraction_digits k f) * 10 ^ k ≡ f * 10 ^ length (fraction_digits k f)
unfolding fraction_digits
number-fraction_digits zero f h = let none : f ≡ 0 = omega arith in rw none refl
number-fraction_digits (suc k) f h =
    let p = 10 ^ k in
    let q = f / p in
    let r = f % p in
    let digit : 0 + (48 + q - 48) ≡ q = omega arith in
    let parts : f ≡ q * p + r = sym (div-add-mod' f p) in
    elim (cases_Bool (r == 0)) [
      | inl none ↦ rw (none, digit, pow-suc 10 k) (first_alone q p f (parts ∙ ap (λ n. q * p + n) (eqb-true r 0 none)))
      | inr some ↦
          let ds = fraction_digits k r in
          let rest = number-fraction_digits k r (mod_below f p (pow_ten_above k)) in
          let number : number_onto 0 ((48 + q) ∷ ds) ≡ q * 10 ^ length ds + number_onto 0 ds = ap (λ (n : ℕ). number_onto n ds) (omega arith) ∙ number_onto-split q ds in
          rw (some, number, pow-suc 10 k, pow-suc 10 (length ds)) (first_and_rest q p f r (10 ^ length ds) (number_onto 0 ds) parts rest)
    ]

-- ---- the whole part

decimal_whole : (n : ℕ) → n < 2 ^ 64 → IsWhole (decimal n)
decimal_whole n h = record {
  are_digits = record { all = digits_decimal own n h; some = decimal_nonempty n h };
  no_zero_in_front = λ z. elim (cases_eq n 0) [
    | inl none ↦ let one : decimal n ≡ 48 ∷ [] = ap decimal none ∙ decimal_digit 0 (omega arith) in rw one refl
    | inr some ↦ absurd (omega (arith, first_decimal n (omega arith) h))
  ];
}

-- ---- a printed number

-- the pieces of what is printed in units of 10 ^ -k
abbrev pub pieces : Bool → ℕ → ℕ → Number
pieces negative k m =
    record { negative = negative; whole = decimal (m / 10 ^ k); fraction = fraction_digits k (m % 10 ^ k); lowers = false; exponent = [] }

pub pieces_spelled : (negative : Bool) (k m : ℕ) → 0 < k → m / 10 ^ k < 2 ^ 64 → IsNumber (sign_text negative ++ point_text k m) (pieces negative k m)
pieces_spelled negative k m some fits =
    let below = mod_below m (10 ^ k) (pow_ten_above k) in
    record {
      fraction_text = 46 ∷ fraction_digits k (m % 10 ^ k);
      exponent_text = [];
      whole = decimal_whole (m / 10 ^ k) fits;
      fraction = inr (refl, record { all = fraction_digits-all k (m % 10 ^ k) below; some = fraction_digits-some k (m % 10 ^ k) some });
      exponent = inl (refl, refl, refl);
      spelled = ap (λ cs. sign_text negative ++ (decimal (m / 10 ^ k) ++ (46 ∷ cs))) (sym (append-nil (fraction_digits k (m % 10 ^ k))));
    }

both_left : (w p len n : ℕ) → (w * len + n) * p ≡ w * p * len + n * p
both_left w p len n = grind arith

both_right : (w p len f : ℕ) → (w * p + f) * len ≡ w * p * len + f * len
both_right w p len f = grind arith

twice_exact : (m den : ℕ) → 2 * (m * den) + den ≡ m * (2 * den) + den
twice_exact m den = grind arith

whole_and_rest : (w p f len n m : ℕ) → m ≡ w * p + f → n * p ≡ f * len → (w * len + n) * p ≡ m * len
whole_and_rest w p f len n m h k = rw (h, both_left w p len n, both_right w p len f, k) refl

-- the number's value is the units that were printed
pub pieces_value : (negative : Bool) (k m : ℕ) → m / 10 ^ k < 2 ^ 64 → numerator k (pieces negative k m) ≡ m * denominator (pieces negative k m)
unfolding numerator denominator
pieces_value negative k m fits =
    let p = 10 ^ k in
    let w = m / p in
    let f = m % p in
    let ds = fraction_digits k f in
    let parts : m ≡ w * p + f = sym (div-add-mod' m p) in
    let whole : number_onto 0 (decimal w) ≡ w = digits_value-decimal own w fits in
    let spread : number_onto 0 (decimal w ++ ds) ≡ w * 10 ^ length ds + number_onto 0 ds = number_onto-append 0 (decimal w) ds ∙ ap (λ (n : ℕ). number_onto n ds) whole ∙ number_onto-split w ds in
    let a : k + 0 ≡ k = omega arith in
    let b : length ds + 0 ≡ length ds = omega arith in
    rw (a, b, spread) (whole_and_rest w p f (10 ^ length ds) (number_onto 0 ds) m parts (number-fraction_digits k f (mod_below m p (pow_ten_above k))))

pub nearest-exact : (m den : ℕ) → 0 < den → nearest (m * den) den ≡ m
nearest-exact m den above =
    let twice : 2 * (m * den) + den ≡ m * (2 * den) + den = twice_exact m den in
    ap (λ n. n / (2 * den)) twice ∙ div-mul-add m (2 * den) den (omega arith)

units-pieces : (negative : Bool) (m : ℕ) → m / 10 ^ 6 < 2 ^ 64 → units_of (pieces negative 6 m) ≡ signed negative m
unfolding units_of
units-pieces negative m fits =
    let den = denominator (pieces negative 6 m) in
    let above = denominator-above (pieces negative 6 m) in
    rw (pieces_value negative 6 m fits, rounded-signed negative (m * den) den above, nearest-exact m den above) refl

value-pieces : (negative : Bool) (m : ℕ) → m ≤ 10 ^ 18 → value_of (pieces negative 6 m) ≡ Ok (signed negative m)
unfolding value_of
value-pieces negative m small =
    rw (units-pieces negative m (omega arith), unsigned_abs-signed negative m, le-ltb (10 ^ 18) m small) refl

length-signed_text : (negative : Bool) (m : ℕ) → m ≤ 10 ^ 18 → length (sign_text negative ++ point_text 6 m) ≤ 64
length-signed_text negative m small =
    let sign : length (sign_text negative) ≤ 1 = elim negative as (λ b. length (sign_text b) ≤ 1) [ true ↦ omega arith | false ↦ omega arith ] in
    omega (arith, length-append (sign_text negative) (point_text 6 m), length-append (decimal (m / 10 ^ 6)) (46 ∷ fraction_digits 6 (m % 10 ^ 6)), length-decimal-le 13 (m / 10 ^ 6) (omega arith) (omega arith) (omega arith), length-fraction_digits 6 (m % 10 ^ 6))

read-signed_text : (negative : Bool) (m : ℕ) → m ≤ 10 ^ 18 → value_read (sign_text negative ++ point_text 6 m) ≡ Ok (signed negative m)
unfolding value_read
read-signed_text negative m small =
    let short = le-ltb 64 _ (length-signed_text negative m small) in
    let read = number_complete (sign_text negative ++ point_text 6 m) (pieces negative 6 m) (pieces_spelled negative 6 m (omega arith) (omega arith)) in
    rw (short, read) (value-pieces negative m small)

-- a value is never too long
not_long : (o : Option Number) → value_of_token o ≡ Err TooLong → ⊥
unfolding value_of
not_long None e = cc
not_long (Some n) e =
    elim (cases_Bool (nat_lt (10 ^ 18) (unsigned_abs (units_of n)))) [
      | inl over ↦ let f : Err TooLarge ≡ Err TooLong = rw over at e in cc
      | inr within ↦ let f : Ok (units_of n) ≡ Err TooLong = rw within at e in cc
    ]

nothing : (o : Option Number) → ((n : Number) → o ≡ Some n → ⊥) → value_of_token o ≡ Err NotANumber
nothing None h = refl
nothing (Some n) h = absurd (h n refl)

-- what a token's grammar says of its value
pub value_read-long : (text : List ℕ) → (value_read text ≡ Err TooLong) ↔ (64 < length text)
unfolding value_read value_of
value_read-long text =
    elim (cases_lt 64 (length text)) [
      | inl long ↦ (λ _. long, λ _. rw (lt-ltb 64 (length text) long) refl)
      | inr short ↦ (λ e. absurd (not_long (number_of text) (rw (le-ltb 64 (length text) short) at e)), λ long. absurd (omega arith))
    ]

pub value_read-number : (text : List ℕ) (n : Number) → length text ≤ 64 → IsNumber text n → value_read text ≡ value_of n
unfolding value_read
value_read-number text n short h =
    rw (le-ltb 64 (length text) short, number_complete text n h) refl

pub value_read-none : (text : List ℕ) → length text ≤ 64 → ((n : Number) → IsNumber text n → ⊥) → value_read text ≡ Err NotANumber
unfolding value_read
value_read-none text short none =
    rw (le-ltb 64 (length text) short) (nothing (number_of text) (λ n e. none n (number_sound text n e)))

-- a printed value is read back
pub read-units_text : (u : ℤ) → unsigned_abs u ≤ 10 ^ 18 → value_read (units_text u) ≡ Ok u
read-units_text (pos n) small = read-signed_text false n small
read-units_text (negsuc n) small = read-signed_text true (suc n) small

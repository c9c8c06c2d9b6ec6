-- Number tokens: the `number` of RFC 8259, and its exact value.
use Rattle.std.specs.Prelude.{◌≡◌, ℕ, ◌+◌, ◌*◌, ◌/◌, ◌^◌, ◌<◌, Bool, true, false, if◌then◌else◌, List, [], ◌∷◌, ◌++◌, length, slice_index, ◌⊎◌}
use Rattle.std.specs.Str.{all_ascii_digits}
use Rattle.gno_num.specs.Digits.{number_onto}

-- the pieces of a token; the digits of a fraction or an exponent that isn't there are none
pub record Number : Type 0 where
  pub negative : Bool
  pub whole : List ℕ
  pub fraction : List ℕ
  pub lowers : Bool
  pub exponent : List ℕ

-- one digit or more
pub record AreDigits (digits : List ℕ) : Type 0 where
  pub all : all_ascii_digits digits ≡ true
  pub some : 0 < length digits

-- `0`, or digits that don't begin with it
pub record IsWhole (digits : List ℕ) : Type 0 where
  pub are_digits : AreDigits digits
  pub no_zero_in_front : slice_index digits 0 ≡ 48 → length digits ≡ 1

-- nothing, or a point and digits
abbrev pub IsFractionText : List ℕ → List ℕ → Type 0
IsFractionText text digits =
    ((text ≡ []) × (digits ≡ [])) ⊎ ((text ≡ 46 ∷ digits) × AreDigits digits)

-- `-` for an exponent that lowers, `+` or nothing for another
abbrev pub IsExponentSign : List ℕ → Bool → Type 0
IsExponentSign text lowers =
    ((text ≡ 45 ∷ []) × (lowers ≡ true)) ⊎ (((text ≡ 43 ∷ []) ⊎ (text ≡ [])) × (lowers ≡ false))

-- nothing, or `e` or `E`, a sign and digits
abbrev pub IsExponentText : List ℕ → Bool → List ℕ → Type 0
IsExponentText text lowers digits =
    ((text ≡ []) × (lowers ≡ false) × (digits ≡ [])) ⊎ ((mark : ℕ) × (sign : List ℕ)
    × ((mark ≡ 101) ⊎ (mark ≡ 69)) × IsExponentSign sign lowers × AreDigits digits × (text ≡ mark ∷ (sign ++ digits)))

-- `-` in front of a number below zero
abbrev pub sign_text : Bool → List ℕ
sign_text negative = if negative then 45 ∷ [] else []

-- the text is a number token with these pieces
pub record IsNumber (text : List ℕ) (n : Number) : Type 0 where
  pub fraction_text : List ℕ
  pub exponent_text : List ℕ
  pub whole : IsWhole n.whole
  pub fraction : IsFractionText fraction_text n.fraction
  pub exponent : IsExponentText exponent_text n.lowers n.exponent
  pub spelled : text ≡ sign_text n.negative ++ (n.whole ++ (fraction_text ++ exponent_text))

-- the power of ten by which the exponent raises the number
abbrev pub raising : Number → ℕ
raising n = if n.lowers then 0 else number_onto 0 n.exponent

-- the power of ten by which the exponent lowers it
abbrev pub lowering : Number → ℕ
lowering n = if n.lowers then number_onto 0 n.exponent else 0

-- the number is the numerator of its value over the denominator, in units of 10 ^ -places
unfoldable pub numerator : ℕ → Number → ℕ
numerator places n = number_onto 0 (n.whole ++ n.fraction) * 10 ^ (places + raising n)

-- ten to the places behind the point and to what the exponent lowers
unfoldable pub denominator : Number → ℕ
denominator n = 10 ^ (length n.fraction + lowering n)

-- the quotient rounded to the nearest whole number, ties up
abbrev pub nearest : ℕ → ℕ → ℕ
nearest num den = (2 * num + den) / (2 * den)

-- The characters of a string (RFC 8259, section 7), those of UTF-8 by RFC 3629.
use Rattle.std.specs.Prelude.{◌≡◌, ℕ, ◌+◌, ◌*◌, ◌≤◌, true, List, [], ◌∷◌, Some}
use Rattle.std.specs.List.{flat_map}
use Rattle.std.specs.Char.{digit_value, is_digit, encode_utf8}
use Rattle.measure_json.specs.Text.{is_plain, short_escape, is_high, is_low, pair_of}

-- a byte that stands for itself; a character of two bytes to four; a backslash with a letter, and the code
-- that it stands for; `\u` with four hexadecimal digits; two of these, for one character
pub data Character : Type 0 where
  plain : ℕ → Character
  wide : List ℕ → Character
  short : ℕ → ℕ → Character
  unit : ℕ → ℕ → ℕ → ℕ → Character
  pair : ℕ → ℕ → ℕ → ℕ → ℕ → ℕ → ℕ → ℕ → Character

-- a byte behind the first one of a character
abbrev pub IsTail : ℕ → Type 0
IsTail b = (128 ≤ b) × (b ≤ 191)

-- a character in its shortest form, and no surrogate
abbrev pub IsWide : List ℕ → Type 0
IsWide (a ∷ b ∷ []) = (194 ≤ a) × (a ≤ 223) × IsTail b
IsWide (a ∷ b ∷ c ∷ []) =
    (224 ≤ a) × (a ≤ 239) × (a ≡ 224 → 160 ≤ b) × (a ≡ 237 → b ≤ 159) × IsTail b × IsTail c
IsWide (a ∷ b ∷ c ∷ d ∷ []) =
    (240 ≤ a) × (a ≤ 244) × (a ≡ 240 → 144 ≤ b) × (a ≡ 244 → b ≤ 143) × IsTail b × IsTail c × IsTail d
IsWide bytes = ⊥

-- the number with one more hexadecimal digit
abbrev pub with_digit : ℕ → ℕ → ℕ
with_digit number c = 16 * number + digit_value c

-- the number of four hexadecimal digits
abbrev pub unit_of : ℕ → ℕ → ℕ → ℕ → ℕ
unit_of a b c d = with_digit (with_digit (with_digit (with_digit 0 a) b) c) d

abbrev pub AreHex : ℕ → ℕ → ℕ → ℕ → Type 0
AreHex a b c d = (is_digit a 16 ≡ true) × (is_digit b 16 ≡ true) × (is_digit c 16 ≡ true) × (is_digit d 16 ≡ true)

abbrev pub IsCharacter : Character → Type 0
IsCharacter (plain c) = is_plain c ≡ true
IsCharacter (wide bytes) = IsWide bytes
IsCharacter (short c code) = short_escape c ≡ Some code
IsCharacter (unit a b c d) = AreHex a b c d
IsCharacter (pair a b c d e f g h) =
    AreHex a b c d × AreHex e f g h × (is_high (unit_of a b c d) ≡ true) × (is_low (unit_of e f g h) ≡ true)

-- the two units of a pair don't stand as two characters
abbrev pub Unsplit : Character → List Character → Type 0
Unsplit (unit a b c d) (unit e f g h ∷ cs) =
    is_high (unit_of a b c d) ≡ true → is_low (unit_of e f g h) ≡ true → ⊥
Unsplit c cs = Unit {0}

abbrev pub AreCharacters : List Character → Type 0
AreCharacters [] = Unit {0}
AreCharacters (c ∷ cs) = IsCharacter c × Unsplit c cs × AreCharacters cs

-- how it is written
abbrev pub written : Character → List ℕ
written (plain c) = c ∷ []
written (wide bytes) = bytes
written (short c code) = 92 ∷ c ∷ []
written (unit a b c d) = 92 ∷ 117 ∷ a ∷ b ∷ c ∷ d ∷ []
written (pair a b c d e f g h) = 92 ∷ 117 ∷ a ∷ b ∷ c ∷ d ∷ 92 ∷ 117 ∷ e ∷ f ∷ g ∷ h ∷ []

-- the bytes that it stands for; those of a surrogate alone stand in no UTF-8 text
abbrev pub meant : Character → List ℕ
meant (plain c) = c ∷ []
meant (wide bytes) = bytes
meant (short c code) = encode_utf8 code
meant (unit a b c d) = encode_utf8 (unit_of a b c d)
meant (pair a b c d e f g h) = encode_utf8 (pair_of (unit_of a b c d) (unit_of e f g h))

-- what stands between the quotes of a string, and the text that it stands for
abbrev pub IsString : List ℕ → List ℕ → Type 0
IsString inside text =
    (cs : List Character) × AreCharacters cs × (inside ≡ flat_map written cs) × (text ≡ flat_map meant cs)

-- How a string is read (RFC 8259, section 7; UTF-8 by RFC 3629).
use Rattle.std.specs.Prelude.{ℕ, zero, suc, ◌+◌, ◌-◌, ◌*◌, ◌==◌, nat_lt, nat_le, Bool, not, ◌&&◌, ◌||◌, if◌then◌else◌, List, [], ◌∷◌, length, Option, None, Some, Result, Ok}
use Rattle.std.specs.Char.{digit_value, is_digit, encode_utf8}
use Rattle.measure_json.specs.declared.fault.Fault.{Fault}
use Rattle.measure_json.specs.Fault.{◌>>=◌, syntax, with_front, front_of}

-- what follows a byte of this range
unfoldable pub byte_in : ℕ → ℕ → List ℕ → Result (List ℕ) Fault
byte_in low high [] = syntax []
byte_in low high (c ∷ cs) = if nat_le low c && nat_le c high then Ok cs else syntax (c ∷ cs)

-- what follows the second byte, of this range, and the third of a character
unfoldable pub two_more : ℕ → ℕ → List ℕ → Result (List ℕ) Fault
two_more low high text = byte_in low high text >>= λ rest. byte_in 128 191 rest

-- the same with the fourth
unfoldable pub three_more : ℕ → ℕ → List ℕ → Result (List ℕ) Fault
three_more low high text = two_more low high text >>= λ rest. byte_in 128 191 rest

-- what follows a character of two bytes or more in UTF-8
unfoldable pub wide_end : List ℕ → Result (List ℕ) Fault
wide_end [] = syntax []
wide_end (c ∷ cs) =
    if nat_lt c 194 then syntax (c ∷ cs)
    else (if nat_lt c 224 then byte_in 128 191 cs
    else (if c == 224 then two_more 160 191 cs
    else (if c == 237 then two_more 128 159 cs
    else (if nat_lt c 240 then two_more 128 191 cs
    else (if c == 240 then three_more 144 191 cs
    else (if nat_lt c 244 then three_more 128 191 cs
    else (if c == 244 then three_more 128 143 cs
    else syntax (c ∷ cs))))))))

-- a number with one more hexadecimal digit, and what follows it
unfoldable pub hex_onto : ℕ → List ℕ → Result (ℕ × List ℕ) Fault
hex_onto number [] = syntax []
hex_onto number (c ∷ cs) =
    if is_digit c 16 then Ok (16 * number + digit_value c, cs) else syntax (c ∷ cs)

-- the code unit of four hexadecimal digits, and what follows it
unfoldable pub unit_at : List ℕ → Result (ℕ × List ℕ) Fault
unit_at text =
    hex_onto 0 text >>= λ a. hex_onto a.0 a.1 >>= λ b. hex_onto b.0 b.1 >>= λ c. hex_onto c.0 c.1

-- the first and the second of a surrogate pair
abbrev pub is_high : ℕ → Bool
is_high unit = nat_le 0xd800 unit && nat_lt unit 0xdc00

abbrev pub is_low : ℕ → Bool
is_low unit = nat_le 0xdc00 unit && nat_lt unit 0xe000

-- the character of a surrogate pair
abbrev pub pair_of : ℕ → ℕ → ℕ
pair_of high low = 0x10000 + (high - 0xd800) * 1024 + (low - 0xdc00)

-- the pair, where the second unit is the second of one, else the first alone
abbrev pub paired_with : ℕ → List ℕ → ℕ × List ℕ → Result (ℕ × List ℕ) Fault
paired_with high rest low = if is_low low.0 then Ok (pair_of high low.0, low.1) else Ok (high, rest)

-- the first of a pair, with the second where that follows
unfoldable pub high_at : ℕ → List ℕ → Result (ℕ × List ℕ) Fault
high_at high [] = Ok (high, [])
high_at high (a ∷ []) = Ok (high, a ∷ [])
high_at high (a ∷ b ∷ cs) =
    if (a == 92) && (b == 117) then (unit_at cs >>= paired_with high (a ∷ b ∷ cs)) else Ok (high, a ∷ b ∷ cs)

-- a unit, with the second of its pair
abbrev pub paired : ℕ × List ℕ → Result (ℕ × List ℕ) Fault
paired unit = if is_high unit.0 then high_at unit.0 unit.1 else Ok unit

-- what a backslash and this byte stand for
abbrev pub short_escape : ℕ → Option ℕ
short_escape c =
    if ((c == 34) || (c == 92)) || (c == 47) then Some c
    else (if c == 98 then Some 8
    else (if c == 102 then Some 12
    else (if c == 110 then Some 10
    else (if c == 114 then Some 13
    else (if c == 116 then Some 9 else None)))))

abbrev pub short_at : Option ℕ → List ℕ → List ℕ → Result (ℕ × List ℕ) Fault
short_at None text rest = syntax text
short_at (Some code) text rest = Ok (code, rest)

-- the code of an escape, behind its backslash, and what follows it
unfoldable pub escape_at : List ℕ → Result (ℕ × List ℕ) Fault
escape_at [] = syntax []
escape_at (c ∷ cs) = if c == 117 then (unit_at cs >>= paired) else short_at (short_escape c) (c ∷ cs) cs

-- the bytes of a code: a surrogate outside a pair has three, which stand in no UTF-8 text
abbrev pub escaped : ℕ × List ℕ → Result (List ℕ × List ℕ) Fault
escaped found = Ok (encode_utf8 found.0, found.1)

-- the bytes that a character of a string stands for, and what follows it
unfoldable pub character_at : List ℕ → Result (List ℕ × List ℕ) Fault
character_at [] = syntax []
character_at (c ∷ cs) =
    if c == 92 then (escape_at cs >>= escaped)
    else (if nat_lt c 32 then syntax (c ∷ cs)
    else (if nat_lt c 128 then Ok (c ∷ [], cs)
    else (wide_end (c ∷ cs) >>= λ rest. Ok (front_of (c ∷ cs) rest, rest))))

-- at most so many characters and the closing quote
unfoldable pub string_within : ℕ → List ℕ → Result (List ℕ × List ℕ) Fault
string_within zero text = syntax []
string_within (suc n) [] = syntax []
string_within (suc n) (c ∷ cs) =
    if c == 34 then Ok ([], cs)
    else (character_at (c ∷ cs) >>= λ char. with_front char.0 (string_within n char.1))

-- the text of a string, behind its opening quote, and what follows the closing one
unfoldable pub string_at : List ℕ → Result (List ℕ × List ℕ) Fault
string_at text = string_within (length text) text

-- a byte that stands for itself in a string and is a character by itself
abbrev pub is_plain : ℕ → Bool
is_plain c = (nat_le 32 c && nat_lt c 128) && (not (c == 34) && not (c == 92))

-- the plain bytes that a text begins with, and what follows them
abbrev pub plain_front : List ℕ → List ℕ
plain_front [] = []
plain_front (c ∷ cs) = if is_plain c then c ∷ plain_front cs else []

abbrev pub plain_back : List ℕ → List ℕ
plain_back [] = []
plain_back (c ∷ cs) = if is_plain c then plain_back cs else c ∷ cs

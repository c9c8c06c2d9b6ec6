-- Fields of fixed width, and steps that may fail.
use Rattle.std.specs.Prelude.{ℕ, ◌-◌, ◌*◌, ◌^◌, nat_lt, nat_le, ◌&&◌, if◌then◌else◌, List, length, take, drop, Option, None, Some}
use Rattle.std.specs.Str.{all_ascii_digits}
use Rattle.gno_num.specs.Digits.{digits_front, digits_back, begins_with, without_front, number_onto}

-- the second step goes on from what the first one gives
infixl 10 ◌>>=◌
abbrev pub ◌>>=◌ : {A B : Type 0} → Option A → (A → Option B) → Option B
None >>= f = None
(Some x) >>= f = f x

-- a number of so many digits, at most the given one, and what follows
unfoldable pub number_at : ℕ → ℕ → List ℕ → Option (ℕ × List ℕ)
number_at count most text =
    if nat_le count (length text) && (all_ascii_digits (take count text) && nat_le (number_onto 0 (take count text)) most)
    then Some (number_onto 0 (take count text), drop count text)
    else None

-- the same, behind a mark
unfoldable pub field_at : ℕ → ℕ → ℕ → List ℕ → Option (ℕ × List ℕ)
field_at mark count most text =
    if begins_with mark text then number_at count most (without_front mark text) else None

-- the nanoseconds that digits behind a point spell
abbrev pub nanos_of : List ℕ → ℕ
nanos_of digits = number_onto 0 digits * 10 ^ (9 - length digits)

-- a point and 1 to 9 digits, or nothing, and what follows
unfoldable pub nanos_at : List ℕ → Option (ℕ × List ℕ)
nanos_at text =
    if begins_with 46 text
    then (if nat_lt 0 (length (digits_front (without_front 46 text))) && nat_le (length (digits_front (without_front 46 text))) 9
    then Some (nanos_of (digits_front (without_front 46 text)), digits_back (without_front 46 text))
    else None)
    else Some (0, text)

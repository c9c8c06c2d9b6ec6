-- How a number token is taken to pieces, from the left.
use Rattle.std.specs.Prelude.{ℕ, ◌==◌, nat_lt, Bool, true, false, not, ◌&&◌, ◌||◌, if◌then◌else◌, List, [], ◌∷◌, length, Option, None, Some}
use Rattle.gno_num.specs.Digits.{digits_front, digits_back, begins_with, without_front}
use Rattle.gno_num.specs.Number.{Number}

-- `0`, or digits that don't begin with it
abbrev pub is_whole : List ℕ → Bool
is_whole digits = nat_lt 0 (length digits) && (not (begins_with 48 digits) || (length digits == 1))

-- the digits behind a point, if there is one, and what follows
unfoldable pub fraction_at : List ℕ → Option (List ℕ × List ℕ)
fraction_at text =
    if begins_with 46 text
    then (if nat_lt 0 (length (digits_front (without_front 46 text)))
    then Some (digits_front (without_front 46 text), digits_back (without_front 46 text))
    else None)
    else Some ([], text)

-- digits and nothing else, behind an exponent's sign
abbrev pub exponent_digits : Bool → List ℕ → Option (Bool × List ℕ)
exponent_digits lowers text =
    if nat_lt 0 (length (digits_front text)) && (length (digits_back text) == 0)
    then Some (lowers, digits_front text)
    else None

-- a sign, or none, and the digits of an exponent
abbrev pub signed_exponent : List ℕ → Option (Bool × List ℕ)
signed_exponent text =
    if begins_with 45 text
    then exponent_digits true (without_front 45 text)
    else exponent_digits false (without_front 43 text)

-- an exponent, or nothing at all
unfoldable pub exponent_of : List ℕ → Option (Bool × List ℕ)
exponent_of [] = Some (false, [])
exponent_of (mark ∷ text) = if (mark == 101) || (mark == 69) then signed_exponent text else None

-- the pieces of the token, once its exponent is read
abbrev pub with_exponent : Bool → List ℕ → List ℕ → Option (Bool × List ℕ) → Option Number
with_exponent negative whole fraction None = None
with_exponent negative whole fraction (Some (lowers, digits)) =
    Some (record { negative = negative; whole = whole; fraction = fraction; lowers = lowers; exponent = digits })

-- the pieces of the token, once its fraction is read
abbrev pub with_fraction : Bool → List ℕ → Option (List ℕ × List ℕ) → Option Number
with_fraction negative whole None = None
with_fraction negative whole (Some (fraction, text)) =
    with_exponent negative whole fraction (exponent_of text)

-- the pieces of an unsigned token
abbrev pub unsigned_of : Bool → List ℕ → Option Number
unsigned_of negative text =
    if is_whole (digits_front text)
    then with_fraction negative (digits_front text) (fraction_at (digits_back text))
    else None

-- the pieces of the token, if the text is one
unfoldable pub number_of : List ℕ → Option Number
number_of text = unsigned_of (begins_with 45 text) (without_front 45 text)

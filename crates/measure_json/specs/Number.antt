-- How the token of a number is found (RFC 8259).
use Rattle.std.specs.Prelude.{ℕ, ◌==◌, ◌||◌, if◌then◌else◌, List, [], ◌∷◌, Result, Ok}
use Rattle.std.specs.Char.{is_ascii_digit}
use Rattle.gno_num.specs.Digits.{digits_back, begins_with, without_front}
use Rattle.measure_json.specs.declared.fault.Fault.{Fault}
use Rattle.measure_json.specs.Fault.{◌>>=◌, syntax, front_of}

-- what follows one digit or more
unfoldable pub digits_end : List ℕ → Result (List ℕ) Fault
digits_end [] = syntax []
digits_end (c ∷ cs) = if is_ascii_digit c then Ok (digits_back cs) else syntax (c ∷ cs)

-- what follows `0`, or digits that don't begin with it
unfoldable pub whole_end : List ℕ → Result (List ℕ) Fault
whole_end text = if begins_with 48 text then Ok (without_front 48 text) else digits_end text

-- what follows a point and digits, or nothing
unfoldable pub fraction_end : List ℕ → Result (List ℕ) Fault
fraction_end text = if begins_with 46 text then digits_end (without_front 46 text) else Ok text

-- the text without the sign of an exponent
unfoldable pub without_sign : List ℕ → List ℕ
without_sign text = if begins_with 45 text then without_front 45 text else without_front 43 text

-- what follows an exponent, or nothing
unfoldable pub exponent_end : List ℕ → Result (List ℕ) Fault
exponent_end [] = Ok []
exponent_end (c ∷ cs) = if (c == 101) || (c == 69) then digits_end (without_sign cs) else Ok (c ∷ cs)

-- what follows the token, which is the longest one that stands there
unfoldable pub number_end : List ℕ → Result (List ℕ) Fault
number_end text =
    whole_end (without_front 45 text) >>= λ fraction. fraction_end fraction >>= λ exponent. exponent_end exponent

-- the token, and what follows it
unfoldable pub number_at : List ℕ → Result (List ℕ × List ℕ) Fault
number_at text = number_end text >>= λ rest. Ok (front_of text rest, rest)

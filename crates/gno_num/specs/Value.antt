-- The value of a number token.
use Rattle.std.specs.Prelude.{ℕ, ◌^◌, nat_lt, Bool, if◌then◌else◌, List, length, Option, None, Some, Result, Ok, Err, ℤ, pos, neg_ℤ, unsigned_abs}
use Rattle.gno_num.specs.Number.{Number, numerator, denominator}
use Rattle.gno_num.specs.Reading.{number_of}
use Rattle.gno_num.specs.Text.{rounded}
use Rattle.gno_num.specs.declared.read.NumFault.{NumFault}
use Rattle.gno_num.specs.declared.read.NumFault.TheVariants.{TooLong, NotANumber, TooLarge}

-- below zero, or not
abbrev pub signed : Bool → ℕ → ℤ
signed negative n = if negative then neg_ℤ (pos n) else pos n

-- millionths, rounded to the nearest with ties away from zero
unfoldable pub units_of : Number → ℤ
units_of n = rounded (signed n.negative (numerator 6 n)) (denominator n)

-- at most 10 ^ 18 of them
unfoldable pub value_of : Number → Result ℤ NumFault
value_of n = if nat_lt (10 ^ 18) (unsigned_abs (units_of n)) then Err TooLarge else Ok (units_of n)

-- a text that is no token has no value
abbrev pub value_of_token : Option Number → Result ℤ NumFault
value_of_token None = Err NotANumber
value_of_token (Some n) = value_of n

-- the value of a token of at most 64 bytes
unfoldable pub value_read : List ℕ → Result ℤ NumFault
value_read token =
    if nat_lt 64 (length token) then Err TooLong else value_of_token (number_of token)

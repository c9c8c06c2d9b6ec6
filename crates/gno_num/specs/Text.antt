-- The printed forms of numbers.
use Rattle.std.specs.Prelude.{ℕ, zero, suc, ◌+◌, ◌*◌, ◌/◌, ◌%◌, ◌^◌, ◌==◌, if◌then◌else◌, List, [], ◌∷◌, ◌++◌, ℤ, pos, negsuc, neg_ℤ}
use Rattle.std.specs.Fmt.{decimal}
use Rattle.gno_num.specs.Fraction.{Fraction}

-- the k digits of a number below 10 ^ k, with the zeros in front
unfoldable pub padded : ℕ → ℕ → List ℕ
padded zero n = []
padded (suc k) n = (48 + n / 10 ^ k % 10) ∷ padded k n

-- the same digits without the zeros at the end, but at least one
unfoldable pub fraction_digits : ℕ → ℕ → List ℕ
fraction_digits zero n = []
fraction_digits (suc k) n =
    (48 + n / 10 ^ k) ∷ (if n % 10 ^ k == 0 then [] else fraction_digits k (n % 10 ^ k))

-- n units of 10 ^ -k: the whole part, a point, and the fraction
abbrev pub point_text : ℕ → ℕ → List ℕ
point_text k n = decimal (n / 10 ^ k) ++ 46 ∷ fraction_digits k (n % 10 ^ k)

-- units of 10 ^ -6, with a `-` below zero
abbrev pub units_text : ℤ → List ℕ
units_text (pos n) = point_text 6 n
units_text (negsuc n) = 45 ∷ point_text 6 (suc n)

-- the quotient rounded to the nearest whole number, ties away from zero
abbrev pub rounded : ℤ → ℕ → ℤ
rounded (pos n) d = pos ((2 * n + d) / (2 * d))
rounded (negsuc n) d = neg_ℤ (pos ((2 * suc n + d) / (2 * d)))

-- a fraction of units, rounded to a whole number of them
abbrev pub fraction_text : Fraction → List ℕ
fraction_text f = units_text (rounded f.num f.den)

-- Rows of decimal digits.
use Rattle.std.specs.Prelude.{ℕ, ◌+◌, ◌-◌, ◌*◌, ◌==◌, Bool, false, if◌then◌else◌, List, [], ◌∷◌}
use Rattle.std.specs.Char.{is_ascii_digit}

-- the digits that a text begins with
abbrev pub digits_front : List ℕ → List ℕ
digits_front [] = []
digits_front (c ∷ cs) = if is_ascii_digit c then c ∷ digits_front cs else []

-- what follows them
abbrev pub digits_back : List ℕ → List ℕ
digits_back [] = []
digits_back (c ∷ cs) = if is_ascii_digit c then digits_back cs else c ∷ cs

-- the number that the digits of n and these digits spell
abbrev pub number_onto : ℕ → List ℕ → ℕ
number_onto n [] = n
number_onto n (c ∷ cs) = number_onto (10 * n + (c - 48)) cs

-- the text begins with this byte
abbrev pub begins_with : ℕ → List ℕ → Bool
begins_with b [] = false
begins_with b (c ∷ cs) = c == b

-- the text without this byte in front
abbrev pub without_front : ℕ → List ℕ → List ℕ
without_front b [] = []
without_front b (c ∷ cs) = if c == b then cs else c ∷ cs

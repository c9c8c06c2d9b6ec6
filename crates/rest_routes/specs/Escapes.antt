-- The escapes of a parameter.
use Rattle.std.specs.Prelude.{ℕ, ◌+◌, ◌*◌, List, [], ◌∷◌, Option, Some, None, cond, ◌==◌, ◌&&◌, ◌||◌}
use Rattle.std.specs.Char.{is_digit, digit_value}

-- the sign in front of an escape
abbrev pub percent : ℕ
percent = 37

-- a byte in front of what follows, if that can be read
abbrev pub byte_before : ℕ → Option (List ℕ) → Option (List ℕ)
byte_before b None = None
byte_before b (Some bs) = Some (b ∷ bs)

-- each `%` with its two hexadecimal digits read as one byte; nothing where a `%` has no two such digits behind it
abbrev pub unescaped : List ℕ → Option (List ℕ)
unescaped [] = Some []
unescaped (b ∷ []) = cond (b == percent) None (Some (b ∷ []))
unescaped (b ∷ c ∷ []) = cond (b == percent || c == percent) None (Some (b ∷ c ∷ []))
unescaped (b ∷ high ∷ low ∷ rest) =
    cond (b == percent)
    (cond (is_digit high 16 && is_digit low 16) (byte_before (16 * digit_value high + digit_value low) (unescaped rest)) None)
    (byte_before b (unescaped (high ∷ low ∷ rest)))

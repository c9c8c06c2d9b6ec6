-- The header lines of a request: names without case, and values as lists of members.
use Rattle.std.specs.Prelude.{ℕ, ◌==◌, ◌&&◌, Bool, List, [], ◌∷◌, Option, None, Some, map, filter, length, not}
use Rattle.std.specs.List.{list_any, list_all, slice_split}
use Rattle.std.specs.Str.{bytes_eq, str_eq_ignore_ascii_case, all_ascii_digits}
use Rattle.httparse.specs.Ascii.{comma}
use Rattle.httparse.specs.Grammar.{trim_ows}

-- a header line: its name, and its value without the blanks at its ends
abbrev pub Line : Type 0
Line = List ℕ × List ℕ

-- the two are one word, but for the case of their letters
abbrev pub is_word : List ℕ → List ℕ → Bool
is_word text word = str_eq_ignore_ascii_case text word

-- the values of the lines of this name, in their order
abbrev pub values_of : List ℕ → List Line → List (List ℕ)
values_of name lines = map (λ line. line.1) (filter (λ line. is_word line.0 name) lines)

-- the word is one of the members of the value, which commas part
abbrev pub has_member : List ℕ → List ℕ → Bool
has_member word value = list_any (λ part. is_word (trim_ows part) word) (slice_split (λ b. b == comma) value)

-- some value has the member
abbrev pub any_has_member : List ℕ → List (List ℕ) → Bool
any_has_member word values = list_any (has_member word) values

-- the first of the values
abbrev pub first_of : List (List ℕ) → Option (List ℕ)
first_of [] = None
first_of (value ∷ values) = Some value

-- a digit or more, and nothing else
abbrev pub are_some_digits : List ℕ → Bool
are_some_digits text = not (length text == 0) && all_ascii_digits text

-- each of the values is this text
abbrev pub are_all : List ℕ → List (List ℕ) → Bool
are_all text values = list_all (λ value. bytes_eq value text) values

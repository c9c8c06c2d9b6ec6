-- Measures of numbers of few digits, without white space.
use Rattle.std.specs.Prelude.{◌≡◌, ℕ, ◌≤◌, ◌==◌, ◌||◌, Bool, true, false, List, [], ◌∷◌, ◌++◌, length}
use Rattle.std.specs.Str.{all_ascii_digits}
use Rattle.gno_num.specs.Digits.{number_onto}
use Rattle.gno_num.specs.Number.{IsWhole, IsFractionText}
use Rattle.measure_json.specs.Marks.{is_blank}

-- the text begins with the whole part of a number token, of so few digits, and goes on with rest
pub record IsShortWhole (most : ℕ) (text : List ℕ) (number : ℕ) (rest : List ℕ) : Type 0 where
  pub digits : List ℕ
  pub is_whole : IsWhole digits
  pub few : length digits ≤ most
  pub number_is : number ≡ number_onto 0 digits
  pub spelled : text ≡ digits ++ rest

-- it goes on with a point and up to six digits, or with no fraction, which make the number so much longer
pub record IsShortFraction (before : ℕ) (text : List ℕ) (number places : ℕ) (rest : List ℕ) : Type 0 where
  pub piece : List ℕ
  pub digits : List ℕ
  pub is_fraction : IsFractionText piece digits
  pub all : all_ascii_digits digits ≡ true
  pub counted : places ≡ length digits
  pub few : places ≤ 6
  pub number_is : number ≡ number_onto before digits
  pub spelled : text ≡ piece ++ rest

-- an unsigned number token of so few digits in front of the point and up to six behind it, in units of 10 ^ -places
pub record IsShortNumber (most : ℕ) (text : List ℕ) (number places : ℕ) (rest : List ℕ) : Type 0 where
  pub whole : List ℕ
  pub piece : List ℕ
  pub fraction : List ℕ
  pub is_whole : IsWhole whole
  pub is_fraction : IsFractionText piece fraction
  pub all : all_ascii_digits fraction ≡ true
  pub few : length whole ≤ most
  pub counted : places ≡ length fraction
  pub few_places : places ≤ 6
  pub number_is : number ≡ number_onto 0 (whole ++ fraction)
  pub spelled : text ≡ whole ++ (piece ++ rest)

-- a comma, a closing brace or white space stands in front, where the token of a number ends
abbrev pub ends_token : List ℕ → Bool
ends_token [] = false
ends_token (c ∷ cs) = ((c == 44) || (c == 125)) || is_blank c

-- The digits of a short number.
use Rattle.std.specs.Prelude.{◌≡◌, ℕ, ◌≤◌, true, List, length}
use Rattle.std.specs.Str.{all_ascii_digits}

-- at most 64 digits
pub record IsShortRow (row : List ℕ) : Type 0 where
  pub digits : all_ascii_digits row ≡ true
  pub short : length row ≤ 64

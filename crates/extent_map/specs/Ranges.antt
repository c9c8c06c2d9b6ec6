-- Ranges of a disk of blocks: a place with a length.
use Rattle.std.specs.Prelude.{ℕ, ◌+◌, ◌<◌, ◌≤◌, ◌⊎◌, List, All, AllPairs}

-- the place is one of the range's
abbrev pub LiesIn : ℕ → ℕ × ℕ → Type 0
LiesIn place range = (range.0 ≤ place) × (place < range.0 + range.1)

-- the place is before the range or behind it
abbrev pub LiesOutside : ℕ → ℕ × ℕ → Type 0
LiesOutside place range = (place < range.0) ⊎ (range.0 + range.1 ≤ place)

-- one range ends before the other begins, and doesn't touch it
abbrev pub EndsBefore : ℕ × ℕ → ℕ × ℕ → Type 0
EndsBefore first second = first.0 + first.1 < second.0

-- no place lies in both ranges
abbrev pub AreDisjoint : ℕ × ℕ → ℕ × ℕ → Type 0
AreDisjoint one other = (one.0 + one.1 ≤ other.0) ⊎ (other.0 + other.1 ≤ one.0)

-- ranges below an end, by rising place, none of them empty, no two touching
pub record AreFreeRanges (end : ℕ) (ranges : List (ℕ × ℕ)) : Type 0 where
  pub filled : All (λ (r : ℕ × ℕ). 0 < r.1) ranges
  pub below : All (λ (r : ℕ × ℕ). r.0 + r.1 ≤ end) ranges
  pub apart : AllPairs EndsBefore ranges

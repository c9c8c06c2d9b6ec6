-- Changes of free ranges.
use Rattle.std.specs.Prelude.{ℕ, ◌+◌, ◌≤◌, ◌⊎◌, ◌↔◌, List, All}
use Rattle.extent_map.specs.Ranges.{AreFreeRanges, LiesIn, LiesOutside}

-- the free places are those of before and those of the range
pub record Joins (range : ℕ × ℕ) (old new : List (ℕ × ℕ)) : Type 0 where
  pub form : (end : ℕ) → range.0 + range.1 ≤ end → AreFreeRanges end old → AreFreeRanges end new
  pub outside : (place : ℕ) → All (LiesOutside place) new ↔ (All (LiesOutside place) old × LiesOutside place range)

-- the free places are those of before that the range doesn't hold
pub record Cuts (range : ℕ × ℕ) (old new : List (ℕ × ℕ)) : Type 0 where
  pub form : (end : ℕ) → AreFreeRanges end old → AreFreeRanges end new
  pub outside : (place : ℕ) → All (LiesOutside place) new ↔ (All (LiesOutside place) old ⊎ LiesIn place range)

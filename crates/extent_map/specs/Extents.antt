-- What contracts see of extents, and which places are used.
use Rattle.std.specs.Prelude.{◌≡◌, ℕ, ◌+◌, ◌-◌, ◌<◌, ◌≤◌, ◌⊎◌, ◌↔◌, max, nat_le, if◌then◌else◌, List, [], ◌∷◌, ◌++◌, All, Any, IsSomeAnd, slice_get, take, drop}
use Rattle.extent_map.specs.Ranges.{LiesIn, LiesOutside}

-- the end, below which a place is used or free; the free ranges by rising place, each as its place with
-- its length; and how many gives are sure of their memory
pub record ExtentsView : Type 0 where
  pub end : ℕ
  pub free : List (ℕ × ℕ)
  pub spare : ℕ

-- the place is below the end and outside of every free range
abbrev pub IsUsed : ExtentsView → ℕ → Type 0
IsUsed extents place = (place < extents.end) × All (LiesOutside place) extents.free

-- the place lies in a free range, or not below the end
abbrev pub IsUnused : ExtentsView → ℕ → Type 0
IsUnused extents place = (extents.end ≤ place) ⊎ Any (LiesIn place) extents.free

-- some place of the range is used
abbrev pub HoldsUsed : ℕ × ℕ → ExtentsView → Type 0
HoldsUsed range extents = (place : ℕ) × (LiesIn place range × IsUsed extents place)

-- no place of the range was used; a place is used now exactly where it was before or lies in the range
pub record Takes (range : ℕ × ℕ) (old new : ExtentsView) : Type 0 where
  pub unused : (place : ℕ) → LiesIn place range → IsUnused old place
  pub used : (place : ℕ) → IsUsed new place ↔ (IsUsed old place ⊎ LiesIn place range)

-- a place is used now exactly where it was before and doesn't lie in the range
abbrev pub Gives : ℕ × ℕ → ExtentsView → ExtentsView → Type 0
Gives range old new = (place : ℕ) → IsUsed new place ↔ (IsUsed old place × LiesOutside place range)

-- the range is taken where it stands, and the end is behind it
pub record Claims (range : ℕ × ℕ) (old new : ExtentsView) : Type 0 where
  pub taken : Takes range old new
  pub end : new.end ≡ max old.end (range.0 + range.1)
  pub spare : old.spare ≤ new.spare + 1

-- a range without so many places at its front, of which nothing is left where it has no more
abbrev pub without_front : ℕ → ℕ × ℕ → List (ℕ × ℕ)
without_front len range = if nat_le range.1 len then [] else (range.0 + len, range.1 - len) ∷ []

-- the front of a free range is taken
pub record TakesFront (i len at : ℕ) (old new : ExtentsView) : Type 0 where
  pub front : IsSomeAnd (slice_get old.free i) (λ (r : ℕ × ℕ). (at ≡ r.0) × (new.free ≡ take i old.free ++ (without_front len r ++ drop (i + 1) old.free)))
  pub end : new.end ≡ old.end

-- the places behind the end are taken, and the end grows
pub record TakesEnd (len at : ℕ) (old new : ExtentsView) : Type 0 where
  pub front : at ≡ old.end
  pub free : new.free ≡ old.free
  pub end : new.end ≡ old.end + len

-- the greatest end of a range, 0 where there is none
pub record IsLastEnd (ranges : List (ℕ × ℕ)) (end : ℕ) : Type 0 where
  pub all : All (λ (r : ℕ × ℕ). r.0 + r.1 ≤ end) ranges
  pub one : (end ≡ 0) ⊎ Any (λ (r : ℕ × ℕ). r.0 + r.1 ≡ end) ranges

-- The slots of a disk of blocks that are held.
use Rattle.std.specs.Prelude.{◌≡◌, ◌≢◌, ◌↔◌, ℕ, ◌+◌, ◌%◌, ◌^◌, ◌<◌, ◌≤◌, List, ◌++◌, length, All, AllPairs, Any, Contains, take, slice_index_or}
use Rattle.extent_map.specs.Extents.{ExtentsView, IsUsed}
use Rattle.extent_map.specs.Ranges.{AreFreeRanges}
use Rattle.shelf_records.specs.Shelved.{slot}

-- a place lies in the slot that begins here
abbrev pub LiesInSlot : ℕ → ℕ → Type 0
LiesInSlot place at = (at ≤ place) × (place < at + slot)

-- a slot ends where a disk can reach
abbrev pub IsWithin : ℕ → Type 0
IsWithin at = at + slot ≤ 2 ^ 60

-- the places that are used are those of these slots
pub record AreHeld (slots : List ℕ) (extents : ExtentsView) : Type 0 where
  pub form : AreFreeRanges extents.end extents.free
  pub used : (place : ℕ) → IsUsed extents place ↔ Any (LiesInSlot place) slots
  pub aligned : All (λ at. at % slot ≡ 0) slots
  pub apart : AllPairs (λ (a b : ℕ). a ≢ b) slots
  pub end : extents.end % slot ≡ 0
  pub limit : extents.end ≤ 2 ^ 60

-- the first slot that isn't held
pub record IsFirstFree (slots : List ℕ) (at : ℕ) : Type 0 where
  pub aligned : at % slot ≡ 0
  pub free : Contains slots at → ⊥
  pub below : (place : ℕ) → place % slot ≡ 0 → place < at → Contains slots place

-- each of these is the first free slot once those before it are held too, as long as they end where a disk
-- can reach
abbrev pub AreFirstFree : List ℕ → List ℕ → Type 0
AreFirstFree slots places =
    (k d : ℕ) → k < length places → All IsWithin (take k places)
    → IsFirstFree (take k places ++ slots) (slice_index_or places k d)

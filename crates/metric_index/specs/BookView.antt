-- What contracts see of the index's book.
use Rattle.std.specs.Prelude.{◌≡◌, ◌⊎◌, ℕ, Bool, true, List, [], ◌∷◌}
use Rattle.gno_disk.specs.declared.disk.Disk.{Ghosts}
use Rattle.gno_disk.specs.Phases.{Phase, phase}
use Rattle.gno_codec.specs.declared.item.IndexItem.{IndexItem}
use Rattle.front_api.specs.Maps.{Maps}
use Rattle.metric_index.specs.IndexLog.{HoldsIndex}
use Rattle.metric_index.specs.Items.{after_one, counted_of}

-- its disks in the order in which they were handed in, how many sacks the store has, the epoch of the log, whether a
-- call has failed, whether both disks tell their bytes, and the maps in memory
pub record BookView (D : Type 0) : Type 0 where
  pub first : D
  pub second : D
  pub sacks : ℕ
  pub epoch : ℕ
  pub broken : Bool
  pub is_told : Bool
  pub maps : Maps

-- a call on a book
abbrev pub book_phases : {D : Type 0} → BookView D → BookView D → List (Phase D)
book_phases old new = phase old.first new.first ∷ phase old.second new.second ∷ []

-- the images hold the maps, where they are told
abbrev pub AreOfBook : {D : Type 0} → BookView D → List ℕ → List ℕ → Type 0
AreOfBook v a b = v.is_told ≡ true → HoldsIndex v.sacks v.maps a b

-- the images hold the maps as they were, or with this record
abbrev pub AreOldOrNext : {D : Type 0} → BookView D → IndexItem → List ℕ → List ℕ → Type 0
AreOldOrNext v item a b = v.is_told ≡ true → HoldsIndex v.sacks v.maps a b ⊎ HoldsIndex v.sacks (after_one v.maps (counted_of item)) a b

-- each choice of images that a stop now may leave holds the maps
abbrev pub IsLastingBook : {D : Type 0} → Ghosts D → BookView D → Type 0
IsLastingBook g v = (a b : List ℕ) → g.may_leave v.first a → g.may_leave v.second b → AreOfBook v a b

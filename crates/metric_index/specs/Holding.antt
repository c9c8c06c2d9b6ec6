-- How the index keeps its disks.
use Rattle.std.specs.Prelude.{◌≡◌, ℕ, Bool, true, false, if◌then◌else◌, List, [], ◌∷◌, Option, None, Some, is_some, ◌&&◌}
use Rattle.gno_disk.specs.declared.disk.Disk.{Ghosts}
use Rattle.gno_disk.specs.Phases.{AreUnwritten, phase}
use Rattle.gate_log.specs.LogView.{IsFault, MatchMountFault}
use Rattle.gate_log.specs.declared.fault.MountFault.{MountFault}
use Rattle.log_pair.specs.Choice.{TwoTold}
use Rattle.log_pair.specs.PairView.{both_faults}
use Rattle.front_api.specs.Maps.{Maps}
use Rattle.metric_index.specs.declared.holding.Held.{Held}
use Rattle.metric_index.specs.declared.holding.Held.TheVariants.{Mounted, Apart}
use Rattle.metric_index.specs.BookView.{BookView, IsLastingBook}
use Rattle.metric_index.specs.IndexDamage.{HoldsNoIndex}
use Rattle.metric_index.specs.IndexLog.{HoldsIndex}

-- the disks
abbrev pub disks_of : {D : Type 0} → Held D → List D
disks_of (Mounted b) = b.first ∷ b.second ∷ []
disks_of (Apart a b) = a ∷ b ∷ []

-- the maps, unless it is to be mounted again
abbrev pub maps_held : {D : Type 0} → Held D → Option Maps
maps_held (Mounted b) = if b.broken then None else Some b.maps
maps_held (Apart a b) = None

-- whether what was read is told
abbrev pub is_told_of : {D : Type 0} → Held D → Bool
is_told_of (Mounted b) = b.is_told
is_told_of (Apart a b) = true

-- a book is of a store of so many sacks
abbrev pub IsOfSacks : {D : Type 0} → ℕ → Held D → Type 0
IsOfSacks sacks (Mounted b) = b.sacks ≡ sacks
IsOfSacks sacks (Apart a b) = Unit {0}

-- the same where the disks are held
abbrev pub disks_in : {D : Type 0} → Option (Held D) → List D
disks_in None = []
disks_in (Some held) = disks_of held

abbrev pub maps_known : {D : Type 0} → Option (Held D) → Option Maps
maps_known None = None
maps_known (Some held) = maps_held held

abbrev pub is_told_in : {D : Type 0} → Option (Held D) → Bool
is_told_in None = true
is_told_in (Some held) = is_told_of held

-- a book that was mounted from these disks
pub record IsMountedFrom {D : Type 0} (g : Ghosts D) (sacks : ℕ) (a b : D) (book : BookView D) : Type 0 where
  pub whole : book.broken ≡ false
  pub of_sacks : book.sacks ≡ sacks
  pub is_told : book.is_told ≡ (is_some (g.told a) && is_some (g.told b))
  pub exact : TwoTold (g.told a) (g.told b) (λ x y. (m : Maps) → HoldsIndex sacks m x y → book.maps ≡ m)
  pub durable : IsLastingBook g book
  pub unwritten : AreUnwritten g (phase a book.first ∷ phase b book.second ∷ [])
  pub came_first : g.came 2 a book.first
  pub came_second : g.came 2 b book.second

-- The book of what is held, which isn't broken; or one that was mounted anew from the disks.
pub data TakesBook {D : Type 0} (g : Ghosts D) (sacks : ℕ) (old : Option (Held D)) (book : BookView D) (anew : Bool) : Type 0 where
  as_it_was : old ≡ Some (Mounted book) → book.broken ≡ false → anew ≡ false → TakesBook g sacks old book anew
  mounted_anew : (a b : D) → disks_in old ≡ a ∷ b ∷ [] → maps_known old ≡ None → IsMountedFrom g sacks a b book → anew ≡ true → TakesBook g sacks old book anew

-- Mounting failed: the disks stay apart, and nothing was written. Damage comes only where they hold no index.
pub record StaysApart {D : Type 0} (g : Ghosts D) (sacks : ℕ) (old new : Option (Held D)) (fault : MountFault) : Type 0 where
  pub a : D
  pub b : D
  pub first : D
  pub second : D
  pub disks_are : disks_in old ≡ a ∷ b ∷ []
  pub broken : maps_known old ≡ None
  pub new_is : new ≡ Some (Apart first second)
  pub unwritten : AreUnwritten g (phase a first ∷ phase b second ∷ [])
  pub came_first : g.came 2 a first
  pub came_second : g.came 2 b second
  pub tells_first : is_some (g.told first) ≡ is_some (g.told a)
  pub tells_second : is_some (g.told second) ≡ is_some (g.told b)
  pub cause : MatchMountFault fault (IsFault (both_faults g a b) (both_faults g first second)) (λ d. Unit {0}) (Unit {0})
  pub never : MatchMountFault fault (λ f. Unit {0}) (λ d. TwoTold (g.told a) (g.told b) (HoldsNoIndex sacks)) (Unit {0})

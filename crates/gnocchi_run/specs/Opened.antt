-- Stores that are made or found on the disks that were handed in.
use Rattle.std.specs.Prelude.{◌≡◌, ℕ, true, false, List, Some, IfSome, ⊤}
use Rattle.gno_disk.specs.declared.disk.Disk.{Ghosts}
use Rattle.gno_disk.specs.Phases.{AreUnwritten}
use Rattle.gate_log.specs.LogView.{IsFault}
use Rattle.front_api.specs.Maps.{Maps, new_maps}
use Rattle.front_api.specs.Seen.{SeenBooks, capped}
use Rattle.metric_index.specs.IndexLog.{HoldsIndex}
use Rattle.metric_index.specs.IndexView.{index_phases, sum_of_faults}
use Rattle.front.specs.declared.fault.StoreFault.{StoreFault}
use Rattle.front.specs.Creating.{IsMakingOrLooking, IsMakingStore, IsOnlyRead, StoreCame}
use Rattle.front.specs.Looking.{HaveNoStore, HaveStore}
use Rattle.front.specs.Opening.{AreDamaged, AreNewBooks, IsOpenedOn, OfIndexDisks}
use Rattle.front.specs.Plan.{OnPlan}
use Rattle.front.specs.SoloView.{SoloView, StandsForBooks, disks_of_solo}
use Rattle.front.specs.StoreFaults.{MatchStoreFault}
use Rattle.gnocchi_run.specs.declared.task.Start.{Start}
use Rattle.gnocchi_run.specs.declared.task.Start.TheVariants.{Found, New}

-- how often the disks of a store have failed, at most 2^64 - 1
abbrev pub faults_of_disks : {D : Type 0} → Ghosts D → List D → ℕ
faults_of_disks g disks = capped (sum_of_faults g disks)

-- A store was made on these disks, which had none: it has the maps of a new store with this number, it stands for no
-- entries, and a stop at any moment until then leaves no store, or the empty one.
pub record IsMadeStore {D : Type 0} (g : Ghosts D) (sacks number : ℕ) (disks : List D) (v : SoloView D) : Type 0 where
  pub had_none : HaveNoStore g disks
  pub opened : IsOpenedOn sacks true disks v
  pub maps : v.index.maps ≡ Some (new_maps number)
  pub stands : (books : SeenBooks) → AreNewBooks g v books → StandsForBooks g v books
  pub moments : OnPlan (IsMakingStore g sacks number) disks (disks_of_solo v)
  pub came : OnPlan (StoreCame g 15 9 9 1) disks (disks_of_solo v)

-- None was made: there was one, and nothing was written; or a disk failed; or there was no memory. Here too a stop leaves
-- what was there, no store, or the empty one.
pub record IsUnmadeStore {D : Type 0} (g : Ghosts D) (sacks number : ℕ) (fault : StoreFault) (old new : List D) : Type 0 where
  pub moments : OnPlan (IsMakingOrLooking g sacks number) old new
  pub came : OnPlan (StoreCame g 15 9 9 1) old new
  pub cause : MatchStoreFault fault (HaveStore g old × OnPlan (IsOnlyRead g) old new) (IsFault (faults_of_disks g old) (faults_of_disks g new)) (λ d. ⊥) ⊤

-- A store was found on these disks: it has the maps that the disks of the index hold, and it stands for no entries behind
-- what the disks held. Nothing was written, though each disk may have been synced.
pub record IsFoundStore {D : Type 0} (g : Ghosts D) (sacks : ℕ) (disks : List D) (v : SoloView D) : Type 0 where
  pub opened : IsOpenedOn sacks false disks v
  pub held : IfSome v.index.maps (λ m. OfIndexDisks g disks (HoldsIndex sacks m))
  pub exact : OfIndexDisks g disks (λ x y. (m : Maps) → HoldsIndex sacks m x y → v.index.maps ≡ Some m)
  pub stands : (books : SeenBooks) → AreNewBooks g v books → StandsForBooks g v books
  pub unwritten : AreUnwritten g (index_phases disks (disks_of_solo v))
  pub came : OnPlan (StoreCame g 2 2 2 1) disks (disks_of_solo v)

-- None was found: a disk failed; or the place that is told is damaged; or there was no memory. Nothing was written, and the
-- disks are given back in their order.
pub record IsUnfoundStore {D : Type 0} (g : Ghosts D) (sacks : ℕ) (fault : StoreFault) (old new : List D) : Type 0 where
  pub unwritten : AreUnwritten g (index_phases old new)
  pub came : OnPlan (StoreCame g 2 2 2 1) old new
  pub cause : MatchStoreFault fault ⊥ (IsFault (faults_of_disks g old) (faults_of_disks g new)) (AreDamaged g sacks old) ⊤

-- the store over which is answered was made, or found
abbrev pub OpensStore : {D : Type 0} → Ghosts D → Start → ℕ → List D → SoloView D → Type 0
OpensStore g (New number) sacks disks v = IsMadeStore g sacks number disks v
OpensStore g Found sacks disks v = IsFoundStore g sacks disks v

-- it wasn't
abbrev pub OpensNoStore : {D : Type 0} → Ghosts D → Start → ℕ → StoreFault → List D → List D → Type 0
OpensNoStore g (New number) sacks fault old new = IsUnmadeStore g sacks number fault old new
OpensNoStore g Found sacks fault old new = IsUnfoundStore g sacks fault old new

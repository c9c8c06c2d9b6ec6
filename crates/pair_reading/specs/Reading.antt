-- Reading the records of a pair.
use Rattle.std.specs.Prelude.{◌≡◌, ℕ, List, take, Some, slice_get}
use Rattle.gno_num.specs.declared.faults.Damaged.{Damaged as Damage}
use Rattle.gno_disk.specs.declared.disk.Disk.{Ghosts}
use Rattle.gno_disk.specs.Phases.{AreUnwritten}
use Rattle.log_pair.specs.Pair.{disk_number, place_behind}
use Rattle.log_pair.specs.PairView.{PairView, pair_phases}

-- The pair was read and not written: its records are as they were.
pub record IsOnlyRead {D : Type 0} (g : Ghosts D) (old new : PairView D) : Type 0 where
  pub records : new.records ≡ old.records
  pub count : new.count ≡ old.count
  pub place : new.place ≡ old.place
  pub epoch : new.epoch ≡ old.epoch
  pub on_second : new.on_second ≡ old.on_second
  pub told_first : g.told new.first ≡ g.told old.first
  pub told_second : g.told new.second ≡ g.told old.second
  pub unwritten : AreUnwritten g (pair_phases old new)
  pub came_first : g.came 0 old.first new.first
  pub came_second : g.came 0 old.second new.second

-- behind other records of the pair one stands at this place that is odd there
pub record IsOddOf (Odd : List (List ℕ) → List ℕ → Type 0) {D : Type 0} (pair : PairView D) (records : List (List ℕ)) (d : Damage) : Type 0 where
  pub index : ℕ
  pub body : List ℕ
  pub stands : slice_get records index ≡ Some body
  pub odd : Odd (take index records) body
  pub disk_is : d.disk ≡ disk_number pair.on_second
  pub at_is : d.at ≡ place_behind pair.place pair.epoch (take index records)

-- Disks over which a store can be opened whole.
use Rattle.std.specs.Prelude.{◌≡◌, ℕ, ◌+◌, ◌-◌, ◌<◌, ◌≤◌, ◌^◌, List, [], ◌∷◌, Some, ⊤}
use Rattle.gno_disk.specs.declared.disk.Disk.{Ghosts}
use Rattle.front_api.specs.Maps.{Maps}
use Rattle.front_api.specs.Seen.{SeenBooks}
use Rattle.front_api.specs.SeenLaws.{WereAllOpened}
use Rattle.metric_index.specs.IndexLog.{HoldsIndex}
use Rattle.metric_index.specs.IndexView.{sum_of_faults}
use Rattle.sack_history.specs.declared.entry.Counted.{Counted}
use Rattle.sack_history.specs.Legal.{IsLegalCount}
use Rattle.sack_history.specs.Scratch.{durable}
use Rattle.sack_state.specs.declared.disks.SackDisks.{SackDisks}
use Rattle.sack_state.specs.Disks.{AreTold}
use Rattle.sack_state.specs.SackHolding.{HoldsSack}
use Rattle.front.specs.Failing.{failed_at_first}
use Rattle.front.specs.Opening.{AreNewBooks}
use Rattle.front.specs.Plan.{StoreDisks, in_plan, sack_place}
use Rattle.front.specs.SoloView.{SoloView}

-- the disks of each of these sacks hold what a legal history amounts to, the first sack having this number of so many
abbrev pub HoldSacks : {D : Type 0} → Ghosts D → ℕ → ℕ → List (SackDisks D) → Type 0
HoldSacks g total sack [] = ⊤
HoldSacks g total sack (d ∷ disks) =
    ((counts : List Counted) × IsLegalCount counts × AreTold g d (HoldsSack (sack_place total sack) (durable counts)))
    × HoldSacks g total (sack + 1) disks

-- The disks hold a store of so many sacks: those of the index hold its maps, and those of each sack what a legal history
-- amounts to.
pub record HoldStore {D : Type 0} (g : Ghosts D) (sacks : ℕ) (disks : List D) : Type 0 where
  pub from : StoreDisks D
  pub disks_are : disks ≡ in_plan from
  pub maps : Maps
  pub a : List ℕ
  pub b : List ℕ
  pub told_a : g.told from.index_a ≡ Some a
  pub told_b : g.told from.index_b ≡ Some b
  pub index : HoldsIndex sacks maps a b
  pub each : HoldSacks g sacks 0 from.sacks

-- Nothing is seen yet of a front that was opened on these disks, and each book was opened with a state that is told. Where
-- the counts don't stand at their last value, the disks had failed at least as often then as when they were handed in.
pub record AreWholeBooks {D : Type 0} (g : Ghosts D) (disks : List D) (v : SoloView D) (books : SeenBooks) : Type 0 where
  pub new : AreNewBooks g v books
  pub opened : WereAllOpened books
  pub failed : failed_at_first books < 2 ^ 64 - 1 → sum_of_faults g disks ≤ failed_at_first books

-- What contracts see of a shelf.
use Rattle.std.specs.Prelude.{◌≡◌, ◌⊎◌, ℕ, ◌+◌, ◌*◌, ◌-◌, ◌^◌, min, ◌==◌, if◌then◌else◌, Bool, true, false, List, [], ◌∷◌, map, length, Option, Some, None, IsSome, IfSome, slice_get}
use Rattle.gno_disk.specs.declared.disk.Disk.{Ghosts}
use Rattle.gno_disk.specs.Phases.{AtExit, EachMoment, Phase, phase}
use Rattle.archive_policy.specs.Policies.{ArchivePolicy}
use Rattle.archive_policy.specs.declared.kind.Kind.{Kind}
use Rattle.series_model.specs.declared.metric.MetricId.{MetricId}
use Rattle.series_model.specs.declared.point.Split.{Split}
use Rattle.bound_series.specs.Jobs.{place_in}
use Rattle.split_update.specs.Live.{Live}
use Rattle.gno_num.specs.declared.faults.Damaged.{Damaged as Damage}
use Rattle.gno_num.specs.declared.faults.DiskFault.{DiskFault as Fault}
use Rattle.gate_log.specs.LogView.{IsFault, MatchMountFault}
use Rattle.gate_log.specs.declared.fault.MountFault.{MountFault}
use Rattle.log_pair.specs.declared.place.Place.{Place}
use Rattle.log_pair.specs.Pair.{HasNoPair}
use Rattle.log_pair.specs.PairView.{LeavesNoLog}
use Rattle.shelf_records.specs.Filed.{splits_of}
use Rattle.shelf_records.specs.Shelved.{Shelved}
use Rattle.block_slots.specs.Reads.{IsReadOnly}
use Rattle.shelf_blocks.specs.Blocks.{HoldsMetrics}
use Rattle.split_store.specs.Shelf.{HoldsShelf, live_by}

-- its disks in the order in which they were handed in, whose shelf it is and of which epoch its log is,
-- whether a call has failed, and the live metrics by rising identifier, as the records of its log have them
pub record ShelfView (D : Type 0) : Type 0 where
  pub first : D
  pub second : D
  pub blocks : D
  pub place : Place
  pub epoch : ℕ
  pub broken : Bool
  pub metrics : List Shelved

-- All disks tell their bytes, and with what its blocks hold the shelf has these live metrics.
pub record Keeps {D : Type 0} (g : Ghosts D) (v : ShelfView D) (lives : List Live) : Type 0 where
  pub bytes : List ℕ
  pub first : IsSome (g.told v.first)
  pub second : IsSome (g.told v.second)
  pub told : g.told v.blocks ≡ Some bytes
  pub held : HoldsMetrics bytes v.metrics lives

-- what is known of a live metric without its blocks: its policy, its done number, the greatest accepted
-- timestamp, and the keys of its splits, a list for each definition and, within it, each kind
pub record Known : Type 0 where
  pub id : MetricId
  pub policy : ArchivePolicy
  pub done : ℕ
  pub last : Option ℕ
  pub keys : List (List ℕ)

-- that of a live metric, and of one as the records have it
abbrev pub known_of : Live → Known
known_of l = record {
  id = l.id;
  policy = l.policy;
  done = l.done;
  last = l.raw.last;
  keys = map (map (λ s. s.key)) l.splits;
}

abbrev pub known_by_records : Shelved → Known
known_by_records m = record {
  id = m.id;
  policy = m.policy;
  done = m.done;
  last = m.last;
  keys = map (λ k. map (λ s. s.key) k.splits) m.kept;
}

-- the greatest accepted timestamp of a metric, if there is one of both
abbrev pub last_in : Option Shelved → Option ℕ
last_in None = None
last_in (Some m) = m.last

-- the keys of the splits of a definition and kind, by rising key
abbrev pub keys_in : ℕ → Kind → Shelved → List ℕ
keys_in definition kind m = map (λ s. s.key) (splits_of definition kind m.kept)

-- how often three disks have failed, a number that ends at the last value of its type
abbrev pub all_faults : {D : Type 0} → Ghosts D → D → D → D → ℕ
all_faults g a b blocks = min (g.faults a + g.faults b + g.faults blocks) (2 ^ 64 - 1)

-- those of a shelf
abbrev pub shelf_faults : {D : Type 0} → Ghosts D → ShelfView D → ℕ
shelf_faults g v = all_faults g v.first v.second v.blocks

-- a call on a shelf works on its blocks first, and then on one disk of its log, or on one after the other
abbrev pub shelf_phases : {D : Type 0} → ShelfView D → ShelfView D → List (Phase D)
shelf_phases old new = phase old.blocks new.blocks ∷ phase old.first new.first ∷ phase old.second new.second ∷ []

-- the images are those of the blocks and of the two disks of the log, and have P
abbrev pub OfThree : (List ℕ → List ℕ → List ℕ → Type 0) → List (List ℕ) → Type 0
OfThree P [] = ⊥
OfThree P (z ∷ []) = ⊥
OfThree P (z ∷ a ∷ []) = ⊥
OfThree P (z ∷ a ∷ b ∷ []) = P a b z
OfThree P (z ∷ a ∷ b ∷ c ∷ images) = ⊥

-- a fact of what three disks tell, where all do
abbrev pub ThreeTold : Option (List ℕ) → Option (List ℕ) → Option (List ℕ) → (List ℕ → List ℕ → List ℕ → Type 0) → Type 0
ThreeTold a b z P = IfSome a (λ x. IfSome b (λ y. IfSome z (λ w. P x y w)))

-- the images hold these live metrics, or what a change makes of them
abbrev pub AreOldOrChanged : Place → List Live → (List Live → List Live) → List ℕ → List ℕ → List ℕ → Type 0
AreOldOrChanged place lives change a b z = HoldsShelf place lives a b z ⊎ HoldsShelf place (change lives) a b z

-- At every moment of a call a stop leaves the live metrics that the shelf had, or what a change makes of them.
abbrev pub IsOldOrChanged : {D : Type 0} → Ghosts D → (List Live → List Live) → ShelfView D → ShelfView D → Type 0
IsOldOrChanged g change old new = (lives : List Live) → Keeps g old lives
    → EachMoment g (shelf_phases old new) (OfThree (AreOldOrChanged old.place lives change))

-- and so it does at the call's exit
abbrev pub LeavesOldOrChanged : {D : Type 0} → Ghosts D → (List Live → List Live) → ShelfView D → ShelfView D → Type 0
LeavesOldOrChanged g change old new = (lives : List Live) (images : List (List ℕ)) → Keeps g old lives
    → AtExit g (shelf_phases old new) images → OfThree (AreOldOrChanged old.place lives change) images

-- the shelf has what a change makes of the live metrics that it had
abbrev pub IsChanged : {D : Type 0} → Ghosts D → (List Live → List Live) → ShelfView D → ShelfView D → Type 0
IsChanged g change old new = (lives : List Live) → Keeps g old lives → Keeps g new (change lives)

-- it has the live metrics that it had
abbrev pub IsKeptAs : {D : Type 0} → Ghosts D → ShelfView D → ShelfView D → Type 0
IsKeptAs g old new = (lives : List Live) → Keeps g old lives → Keeps g new lives

-- each choice of images that a stop now may leave holds the live metrics that the shelf has
abbrev pub IsLastingShelf : {D : Type 0} → Ghosts D → ShelfView D → Type 0
IsLastingShelf g v = (lives : List Live) (a b z : List ℕ) → Keeps g v lives
    → g.may_leave v.first a → g.may_leave v.second b → g.may_leave v.blocks z → HoldsShelf v.place lives a b z

-- Where all disks tell their bytes, and no image of the first two has a log, what a stop at any moment
-- leaves is no log or the empty shelf. The blocks come first, then the second disk.
abbrev pub IsMakingShelf : {D : Type 0} → Ghosts D → Place → D → D → D → D → D → D → Type 0
IsMakingShelf g place a b blocks first second synced =
    IsSome (g.told a) → IsSome (g.told b) → IsSome (g.told blocks) → LeavesNoLog g a → LeavesNoLog g b
    → EachMoment g (phase blocks synced ∷ phase b second ∷ phase a first ∷ []) (OfThree (λ y x z. HasNoPair x y ⊎ HoldsShelf place [] x y z))

-- The blocks were read and not written, and the log wasn't touched: the shelf has what it had.
pub record IsOnlySeen {D : Type 0} (g : Ghosts D) (old new : ShelfView D) : Type 0 where
  pub place : new.place ≡ old.place
  pub epoch : new.epoch ≡ old.epoch
  pub metrics : new.metrics ≡ old.metrics
  pub first : new.first ≡ old.first
  pub second : new.second ≡ old.second
  pub blocks : IsReadOnly g old.blocks new.blocks

-- A call failed by a fault of a disk, and the shelf is broken.
pub record HasFailed {D : Type 0} (g : Ghosts D) (old new : ShelfView D) (f : Fault) : Type 0 where
  pub fault : IsFault (shelf_faults g old) (shelf_faults g new) f
  pub broken : new.broken ≡ true

-- A call found damage at this place of the blocks, and the shelf is broken. It keeps no live metrics.
pub record HasDamage {D : Type 0} (g : Ghosts D) (IsDamage : List ℕ → ℕ → Type 0) (old new : ShelfView D) (d : Damage) : Type 0 where
  pub disk : d.disk ≡ 2
  pub at : IfSome (g.told old.blocks) (λ bytes. IsDamage bytes d.at)
  pub broken : new.broken ≡ true
  pub none : (lives : List Live) → Keeps g old lives → ⊥

-- why a call that reads blocks failed: a disk, damage in the blocks, or memory, after which the shelf isn't broken
abbrev pub IsCause : {D : Type 0} → Ghosts D → (List ℕ → ℕ → Type 0) → ShelfView D → ShelfView D → MountFault → Type 0
IsCause g IsDamage old new e = MatchMountFault e (HasFailed g old new) (HasDamage g IsDamage old new) (new.broken ≡ false)

-- ---- the splits of a metric

-- the list for the definition and the kind at these places, where each definition has so many kinds; none
-- where the kind has no place, or beyond the lists
abbrev pub list_at : {A : Type 0} → List (List A) → ℕ → ℕ → Option ℕ → Option (List A)
list_at lists kinds definition None = None
list_at lists kinds definition (Some place) = slice_get lists (definition * kinds + place)

-- that of a kind for the definition at this place; none where the policy hasn't these
abbrev pub list_for : {A : Type 0} → ArchivePolicy → List (List A) → ℕ → Kind → Option (List A)
list_for policy lists definition kind =
    list_at lists (length policy.kinds) definition (place_in policy.kinds kind)

-- the split with this key
abbrev pub split_with : ℕ → List Split → Option Split
split_with key [] = None
split_with key (s ∷ splits) = if s.key == key then Some s else split_with key splits

-- the same, of splits that there may be
abbrev pub split_among : ℕ → Option (List Split) → Option Split
split_among key None = None
split_among key (Some splits) = split_with key splits

-- the split of a definition and kind of a metric, if the metric is live and the split is stored
abbrev pub split_in : ℕ → Kind → ℕ → Option Live → Option Split
split_in definition kind key None = None
split_in definition kind key (Some l) = split_among key (list_for l.policy l.splits definition kind)

abbrev pub stored_split : MetricId → ℕ → Kind → ℕ → List Live → Option Split
stored_split id definition kind key lives = split_in definition kind key (live_by id lives)

-- What contracts see of the index.
use Rattle.std.specs.Prelude.{◌≡◌, ◌⊎◌, ◌+◌, ◌-◌, ◌^◌, ◌≤◌, min, ℕ, Bool, true, false, if◌then◌else◌, List, [], ◌∷◌, ◌++◌, length, Option, None, Some, is_some, ⊤}
use Rattle.gno_disk.specs.declared.disk.Disk.{Ghosts}
use Rattle.gno_num.specs.Faults.{Rose}
use Rattle.gno_num.specs.declared.faults.DiskFault.{DiskFault as Fault}
use Rattle.gno_disk.specs.Phases.{MountsOrStill, Phase, phase}
use Rattle.log_pair.specs.PairView.{OfTwo}
use Rattle.front_api.specs.declared.history.IndexCounted.{IndexCounted}
use Rattle.front_api.specs.declared.history.IndexEntry.{IndexEntry}
use Rattle.front_api.specs.declared.history.IndexEntry.TheVariants.{Reopened}
use Rattle.front_api.specs.IndexHistory.{IndexState, IsLegalIndex, state_of}
use Rattle.front_api.specs.Maps.{Maps, after_counted}
use Rattle.metric_index.specs.IndexLog.{HoldsIndex}
use Rattle.metric_index.specs.Items.{after_one}

-- its disks in the order in which they were handed in, how many sacks the store has, the maps unless it is broken,
-- whether what was read of the disks is told, and how many entries its calls have added
pub record IndexView (D : Type 0) : Type 0 where
  pub disks : List D
  pub sacks : ℕ
  pub maps : Option Maps
  pub is_told : Bool
  pub entries : ℕ

-- one image of each disk that a stop now may leave
abbrev pub LeavesNow : {D : Type 0} → Ghosts D → List D → List (List ℕ) → Type 0
LeavesNow g [] [] = ⊤
LeavesNow g [] (image ∷ images) = ⊥
LeavesNow g (d ∷ disks) [] = ⊥
LeavesNow g (d ∷ disks) (image ∷ images) = g.may_leave d image × LeavesNow g disks images

-- each disk tells its bytes
abbrev pub AllTell : {D : Type 0} → Ghosts D → List D → Type 0
AllTell g [] = ⊤
AllTell g (d ∷ disks) = (is_some (g.told d) ≡ true) × AllTell g disks

-- each disk came from itself by at most so many changing calls
abbrev pub AllCame : {D : Type 0} → Ghosts D → ℕ → List D → List D → Type 0
AllCame g n [] [] = ⊤
AllCame g n [] (d ∷ disks) = ⊥
AllCame g n (d ∷ disks) [] = ⊥
AllCame g n (old ∷ olds) (new ∷ news) = g.came n old new × AllCame g n olds news

-- how often the disks have failed together
abbrev pub sum_of_faults : {D : Type 0} → Ghosts D → List D → ℕ
sum_of_faults g [] = 0
sum_of_faults g (d ∷ disks) = g.faults d + sum_of_faults g disks

-- a count that ends at the last value of its type
abbrev pub capped : ℕ → ℕ
capped n = min n (2 ^ 64 - 1)

-- the phases of a call, disk by disk
abbrev pub index_phases : {D : Type 0} → List D → List D → List (Phase D)
index_phases [] news = []
index_phases (old ∷ olds) [] = []
index_phases (old ∷ olds) (new ∷ news) = phase old new ∷ index_phases olds news

-- the images hold the maps of a state, or those with what an open fault tried
abbrev pub AreOfState : ℕ → IndexState → List ℕ → List ℕ → Type 0
AreOfState sacks s a b = HoldsIndex sacks s.maps a b ⊎ ((c : IndexCounted) × (s.tried ≡ c ∷ []) × HoldsIndex sacks (after_counted s.maps c) a b)

-- the maps of a state in which no fault is open
abbrev pub maps_at : IndexState → Option Maps
maps_at s = if s.is_open then None else Some s.maps

-- The index, whose disks tell their bytes, stands for a legal history, where it had these maps before it: its maps
-- are those of the history unless it is broken, and each choice of images of its disks holds the maps, or those with
-- what the open fault tried.
pub record StandsFor {D : Type 0} (g : Ghosts D) (first : Maps) (h : List IndexEntry) (v : IndexView D) : Type 0 where
  pub legal : IsLegalIndex first h
  pub is_told : v.is_told ≡ true
  pub tell : AllTell g v.disks
  pub maps : v.maps ≡ maps_at (state_of first h)
  pub held : (images : List (List ℕ)) → LeavesNow g v.disks images → OfTwo (AreOfState v.sacks (state_of first h)) images

-- the images hold the maps as they were when writing began, or with what is written
abbrev pub AreOldOrWith : ℕ → Maps → Option IndexCounted → List ℕ → List ℕ → Type 0
AreOldOrWith sacks m written a b = HoldsIndex sacks m a b ⊎ HoldsIndex sacks (after_one m written) a b

-- After a call with these own entries the index stands for the history with them, and it has counted them. A broken
-- index was mounted first, unless that failed; from then on (`mid` is the history until then), a stop at any moment
-- leaves the maps, or those with what the call writes.
pub record StandsAfter {D : Type 0} (g : Ghosts D) (first : Maps) (h : List IndexEntry) (written : Maps → Option IndexCounted) (old new : IndexView D) (Call : List IndexEntry → Type 0) : Type 0 where
  pub own : List IndexEntry
  pub does : Call own
  pub stands : StandsFor g first (h ++ own) new
  pub counted : new.entries ≡ capped (old.entries + length own)
  pub mid : List IndexEntry
  pub mid_is : (mid ≡ h) ⊎ ((kept : Bool) × (mid ≡ h ++ Reopened kept ∷ []))
  pub moments : MountsOrStill g (index_phases old.disks new.disks) (OfTwo (AreOldOrWith old.sacks (state_of first mid).maps (written (state_of first mid).maps)))

-- A fault of a disk in a call: its counts are of both disks, from when the call began, or when its mounting ended, to
-- the call's end.
pub record IsFaultOf {D : Type 0} (g : Ghosts D) (olds news : List D) (f : Fault) : Type 0 where
  pub before : capped (sum_of_faults g olds) ≤ f.before
  pub after : f.after ≡ capped (sum_of_faults g news)
  pub rose : Rose f.before f.after

-- how many entries a call adds that mounted the index, or found it mounted
abbrev pub entries_of : Bool → ℕ
entries_of true = 2
entries_of false = 1

-- a fact of the two disks that there are
abbrev pub OfDisks : {D : Type 0} → List D → (D → D → Type 0) → Type 0
OfDisks [] P = ⊥
OfDisks (a ∷ []) P = ⊥
OfDisks (a ∷ b ∷ []) P = P a b
OfDisks (a ∷ b ∷ c ∷ disks) P = ⊥

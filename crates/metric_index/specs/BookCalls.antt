-- What a call on a book adds to the index's history, and what it leaves.
use Rattle.std.specs.Prelude.{◌≡◌, ◌⊎◌, ℕ, true, if◌then◌else◌, List, [], ◌∷◌, Option, None, Some, Result, Ok, Err}
use Rattle.gno_num.specs.declared.faults.DiskFault.{DiskFault as Fault}
use Rattle.gno_disk.specs.declared.disk.Disk.{Ghosts}
use Rattle.gno_disk.specs.Phases.{AtExit, EachMoment}
use Rattle.log_pair.specs.PairView.{OfTwo}
use Rattle.front_api.specs.declared.command.Command.{Command}
use Rattle.front_api.specs.declared.fault.ControlFault.{ControlFault}
use Rattle.front_api.specs.declared.fault.ControlFault.TheVariants as faults
use Rattle.front_api.specs.declared.history.IndexCounted.{IndexCounted}
use Rattle.front_api.specs.declared.history.IndexCounted.TheVariants as counted
use Rattle.front_api.specs.declared.history.IndexEntry.{IndexEntry}
use Rattle.front_api.specs.declared.history.IndexEntry.TheVariants as entries
use Rattle.front_api.specs.IndexHistory.{IndexState, after_entries, at_rest}
use Rattle.front_api.specs.Maps.{Maps, is_change}
use Rattle.metric_index.specs.BookView.{BookView, book_phases}
use Rattle.metric_index.specs.IndexLog.{HoldsIndex}
use Rattle.metric_index.specs.Items.{after_one}

-- the entry of a refusal, where this was written or nothing
abbrev pub refusal_entry : Option IndexCounted → ControlFault → IndexEntry
refusal_entry tried (faults.DiskFault f) = entries.Fault tried f.before f.after
refusal_entry tried (faults.Spent s) = entries.Look
refusal_entry tried (faults.Damaged d) = entries.Look
refusal_entry tried faults.Memory = entries.Look
refusal_entry tried faults.PolicyExists = entries.Look
refusal_entry tried faults.PolicyUnknown = entries.Look
refusal_entry tried faults.PolicyInUse = entries.Look
refusal_entry tried faults.RuleExists = entries.Look
refusal_entry tried faults.RuleUnknown = entries.Look
refusal_entry tried faults.NoRule = entries.Look
refusal_entry tried faults.NameTaken = entries.Look
refusal_entry tried faults.MetricUnknown = entries.Look
refusal_entry tried faults.ResourceExists = entries.Look
refusal_entry tried faults.ResourceUnknown = entries.Look
refusal_entry tried faults.ResourceInUse = entries.Look
refusal_entry tried (faults.IdTaken id) = entries.Look

-- what counts, or a look
abbrev pub counted_entry : Option IndexCounted → IndexEntry
counted_entry None = entries.Look
counted_entry (Some c) = entries.Counted c

-- the one entry of a call that writes this, or nothing, by its result
abbrev pub entry_by : {R : Type 0} → Option IndexCounted → Result R ControlFault → IndexEntry
entry_by written (Ok reply) = counted_entry written
entry_by written (Err fault) = refusal_entry written fault

-- what a command writes
abbrev pub written_by : Command → Option IndexCounted
written_by command = if is_change command then Some (counted.Command command) else None

-- the book is in this state
pub record IsAt {D : Type 0} (v : BookView D) (s : IndexState) : Type 0 where
  pub maps : v.maps ≡ s.maps
  pub broken : v.broken ≡ s.is_open

-- the state after a call on these maps that added this entry
abbrev pub state_by : Maps → IndexEntry → IndexState
state_by m entry = after_entries (at_rest m) (entry ∷ [])

-- the images hold the maps as they were, or with what is written
abbrev pub AreOldOrWritten : {D : Type 0} → BookView D → Option IndexCounted → List ℕ → List ℕ → Type 0
AreOldOrWritten v written a b = v.is_told ≡ true → HoldsIndex v.sacks v.maps a b ⊎ HoldsIndex v.sacks (after_one v.maps written) a b

-- What a call on a book that isn't broken leaves, where it writes this or nothing: at every moment the old maps or
-- those with what is written.
pub record LeavesBook {D : Type 0} (g : Ghosts D) (written : Option IndexCounted) (old new : BookView D) : Type 0 where
  pub sacks : new.sacks ≡ old.sacks
  pub told : new.is_told ≡ old.is_told
  pub came_first : g.came 4 old.first new.first
  pub came_second : g.came 4 old.second new.second
  pub any_moment : EachMoment g (book_phases old new) (OfTwo (AreOldOrWritten old written))
  pub left : (images : List (List ℕ)) → AtExit g (book_phases old new) images → OfTwo (AreOldOrWritten old written) images

-- a fact of a fault of a disk, and another one of every other refusal
abbrev pub MatchDisk : ControlFault → (Fault → Type 0) → Type 0 → Type 0
MatchDisk (faults.DiskFault f) P Q = P f
MatchDisk (faults.Spent s) P Q = Q
MatchDisk (faults.Damaged d) P Q = Q
MatchDisk faults.Memory P Q = Q
MatchDisk faults.PolicyExists P Q = Q
MatchDisk faults.PolicyUnknown P Q = Q
MatchDisk faults.PolicyInUse P Q = Q
MatchDisk faults.RuleExists P Q = Q
MatchDisk faults.RuleUnknown P Q = Q
MatchDisk faults.NoRule P Q = Q
MatchDisk faults.NameTaken P Q = Q
MatchDisk faults.MetricUnknown P Q = Q
MatchDisk faults.ResourceExists P Q = Q
MatchDisk faults.ResourceUnknown P Q = Q
MatchDisk faults.ResourceInUse P Q = Q
MatchDisk (faults.IdTaken id) P Q = Q

-- a refusal of a write: a fault of a disk, or want of memory
abbrev pub MatchWrite : ControlFault → (Fault → Type 0) → Type 0 → Type 0
MatchWrite (faults.DiskFault f) P Q = P f
MatchWrite faults.Memory P Q = Q
MatchWrite (faults.Spent s) P Q = ⊥
MatchWrite (faults.Damaged d) P Q = ⊥
MatchWrite faults.PolicyExists P Q = ⊥
MatchWrite faults.PolicyUnknown P Q = ⊥
MatchWrite faults.PolicyInUse P Q = ⊥
MatchWrite faults.RuleExists P Q = ⊥
MatchWrite faults.RuleUnknown P Q = ⊥
MatchWrite faults.NoRule P Q = ⊥
MatchWrite faults.NameTaken P Q = ⊥
MatchWrite faults.MetricUnknown P Q = ⊥
MatchWrite faults.ResourceExists P Q = ⊥
MatchWrite faults.ResourceUnknown P Q = ⊥
MatchWrite faults.ResourceInUse P Q = ⊥
MatchWrite (faults.IdTaken id) P Q = ⊥

-- Metrics that come to the books of a sack, and go.
use Rattle.std.specs.Prelude.{◌≡◌, ◌≤◌, ◌<◌, Bool, true, false, not, List, Result, Ok, Err, IfSome}
use Rattle.gno_num.specs.declared.faults.DiskFault.{DiskFault as Fault}
use Rattle.gno_disk.specs.declared.disk.Disk.{Ghosts}
use Rattle.gate_log.specs.LogView.{IsFault}
use Rattle.archive_policy.specs.Names.{IsName}
use Rattle.archive_policy.specs.Policies.{AreDefinitions, AreKinds, ArchivePolicy}
use Rattle.series_model.specs.declared.metric.MetricId.{MetricId}
use Rattle.incoming.specs.IncomingView.{IncomingView}
use Rattle.incoming.specs.Posts.{RiseFrom, last_number, marks_of}
use Rattle.split_update.specs.Live.{Live}
use Rattle.split_store.specs.ShelfView.{IsChanged, IsLastingShelf, IsOldOrChanged, LeavesOldOrChanged, ShelfView}
use Rattle.sack_history.specs.Failing.{Failure, no_memory, on_disk}
use Rattle.sack_state.specs.declared.books.Books.{Books}
use Rattle.sack_state.specs.Books.{disks_of}
use Rattle.sack_state.specs.Disks.{sack_faults}
use Rattle.sack_state.specs.Posting.{knows}

-- a record of the shelf was written: at every moment a stop leaves the live metrics as they were, or what the change
-- makes of them, and so it does at the exit; the blocks stand still
pub record WritesMetrics {D : Type 0} (g : Ghosts D) (change : List Live → List Live) (old new : ShelfView D) : Type 0 where
  pub moments : IsOldOrChanged g change old new
  pub left : LeavesOldOrChanged g change old new
  pub came_first : g.came 4 old.first new.first
  pub came_second : g.came 4 old.second new.second
  pub blocks : new.blocks ≡ old.blocks

-- the shelf has what the change makes of the live metrics
pub record HasChanged {D : Type 0} (g : Ghosts D) (change : List Live → List Live) (old new : ShelfView D) : Type 0 where
  pub keeps : IsChanged g change old new
  pub whole : new.broken ≡ false
  pub lasting : IsLastingShelf g new

-- a disk has failed, and the shelf is broken; it still knows what it knew
pub record HasBrokenShelf {D : Type 0} (g : Ghosts D) (old new : Books D) (f : Fault) : Type 0 where
  pub metrics : new.shelf.metrics ≡ old.shelf.metrics
  pub broken : new.shelf.broken ≡ true
  pub fault : IsFault (sack_faults g (disks_of old)) (sack_faults g (disks_of new)) f

-- What a change of the live metrics answers on books that aren't broken: it is made where the metric is live or not,
-- as is wanted, and else refused. Where it is refused, nothing has changed.
pub data ChangesMetrics {D F : Type 0} (g : Ghosts D) (metric : MetricId) (wanted : Bool) (refusal : F) (fault : Failure → F) (change : List Live → List Live) (old new : Books D) (result : Result (Unit {0}) F) : Type 0 where
  changed : (done : Unit {0}) → knows metric old ≡ wanted → WritesMetrics g change old.shelf new.shelf → HasChanged g change old.shelf new.shelf → result ≡ Ok done
      → ChangesMetrics g metric wanted refusal fault change old new result
  failed : (f : Fault) → knows metric old ≡ wanted → WritesMetrics g change old.shelf new.shelf → HasBrokenShelf g old new f → result ≡ Err (fault (on_disk f))
      → ChangesMetrics g metric wanted refusal fault change old new result
  refused : knows metric old ≡ not wanted → new ≡ old → result ≡ Err refusal → ChangesMetrics g metric wanted refusal fault change old new result
  starved : new ≡ old → result ≡ Err (fault no_memory) → ChangesMetrics g metric wanted refusal fault change old new result

-- the posts of an incoming log are below its next number, which isn't 0
abbrev pub ArePostsBelow : {D : Type 0} → IncomingView D → Type 0
ArePostsBelow v = (1 ≤ v.next) × RiseFrom 0 v.marks × (last_number v.marks < v.next) × IfSome v.posts (λ posts. v.marks ≡ marks_of posts)

-- what is true of a policy
abbrev pub IsValid : ArchivePolicy → Type 0
IsValid policy = IsName policy.name × (policy.back_window ≤ 1000) × AreDefinitions policy.definitions × AreKinds policy.kinds

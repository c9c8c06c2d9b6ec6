-- A post on the books of a sack.
use Rattle.std.specs.Prelude.{◌≡◌, ◌≢◌, ℕ, ◌+◌, Bool, true, false, List, [], ◌∷◌, ◌++◌, Result, Ok, Err, is_some}
use Rattle.gno_num.specs.declared.faults.Counter.TheVariants as counter
use Rattle.gno_num.specs.declared.faults.DiskFault.{DiskFault as Fault}
use Rattle.gno_disk.specs.declared.disk.Disk.{Ghosts}
use Rattle.gno_disk.specs.Phases.{AtExit, EachMoment}
use Rattle.gate_log.specs.LogView.{IsFault}
use Rattle.log_pair.specs.PairView.{OfTwo}
use Rattle.series_model.specs.declared.measure.Measure.{Measure}
use Rattle.series_model.specs.declared.metric.MetricId.{MetricId}
use Rattle.incoming.specs.IncomingView.{AddsPost, AreOldOrPosted, IncomingView, IsLastingIncoming, incoming_phases}
use Rattle.incoming.specs.Posts.{Post, mark_of}
use Rattle.shelf_records.specs.Shelved.{metric_of}
use Rattle.sack_history.specs.declared.fault.SackFault.{SackFault}
use Rattle.sack_history.specs.declared.fault.SackFault.TheVariants as sack_fault
use Rattle.sack_history.specs.Calls.{spent_at}
use Rattle.sack_state.specs.declared.books.Books.{Books}
use Rattle.sack_state.specs.Books.{disks_of}
use Rattle.sack_state.specs.Disks.{sack_faults}

-- whether the books know this metric as a live one
abbrev pub knows : {D : Type 0} → MetricId → Books D → Bool
knows metric b = is_some (metric_of metric b.shelf.metrics)

-- the post that comes next
abbrev pub next_of : {D : Type 0} → MetricId → List Measure → IncomingView D → Post
next_of metric measures log = record { number = log.next; metric = metric; measures = measures }

-- a post was written: at every moment a stop leaves the old posts, or those with this one, and so it does at the exit
pub record WritesPost {D : Type 0} (g : Ghosts D) (post : Post) (old new : IncomingView D) : Type 0 where
  pub moments : EachMoment g (incoming_phases old new) (OfTwo (AreOldOrPosted old post))
  pub left : (images : List (List ℕ)) → AtExit g (incoming_phases old new) images → OfTwo (AreOldOrPosted old post) images
  pub came_first : g.came 4 old.first new.first
  pub came_second : g.came 4 old.second new.second

-- the post has come to the end of the posts
pub record HasPosted {D : Type 0} (g : Ghosts D) (post : Post) (old new : IncomingView D) : Type 0 where
  pub posts : AddsPost old.posts new.posts post
  pub marks : new.marks ≡ old.marks ++ mark_of post ∷ []
  pub next : new.next ≡ old.next + 1
  pub whole : new.broken ≡ false
  pub lasting : IsLastingIncoming g new

-- a disk has failed, and the log is broken; it still knows what it knew
pub record HasBroken {D : Type 0} (g : Ghosts D) (old new : Books D) (f : Fault) : Type 0 where
  pub next : new.incoming.next ≡ old.incoming.next
  pub marks : new.incoming.marks ≡ old.incoming.marks
  pub broken : new.incoming.broken ≡ true
  pub fault : IsFault (sack_faults g (disks_of old)) (sack_faults g (disks_of new)) f

-- What a post answers on books that aren't broken. Where it is refused, nothing has changed.
pub data PostsTo {D : Type 0} (g : Ghosts D) (metric : MetricId) (measures : List Measure) (old new : Books D) (result : Result ℕ SackFault) : Type 0 where
  posted : knows metric old ≡ true → old.incoming.next ≢ spent_at → WritesPost g (next_of metric measures old.incoming) old.incoming new.incoming
      → HasPosted g (next_of metric measures old.incoming) old.incoming new.incoming → result ≡ Ok old.incoming.next → PostsTo g metric measures old new result
  failed : (f : Fault) → knows metric old ≡ true → old.incoming.next ≢ spent_at → WritesPost g (next_of metric measures old.incoming) old.incoming new.incoming
      → HasBroken g old new f → result ≡ Err (sack_fault.DiskFault f) → PostsTo g metric measures old new result
  unknown : knows metric old ≡ false → new ≡ old → result ≡ Err sack_fault.Unknown → PostsTo g metric measures old new result
  spent : knows metric old ≡ true → old.incoming.next ≡ spent_at → new ≡ old
      → result ≡ Err (sack_fault.Spent (record { counter = counter.PostNumber; at = spent_at })) → PostsTo g metric measures old new result
  starved : new ≡ old → result ≡ Err sack_fault.Memory → PostsTo g metric measures old new result

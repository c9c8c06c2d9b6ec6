-- Turns on the books of a sack: prepared work that is committed.
use Rattle.std.specs.Prelude.{◌≡◌, ◌≢◌, ◌⊎◌, ℕ, zero, suc, ◌<◌, ◌≤◌, nat_le, Bool, true, false, List, map, take, Option, None, Some, Result, Ok, Err, IsSome, length, option_map, slice_get}
use Rattle.std.specs.List.{filter}
use Rattle.gno_num.specs.declared.faults.DiskFault.{DiskFault as Fault}
use Rattle.gno_disk.specs.declared.disk.Disk.{Ghosts}
use Rattle.gate_log.specs.LogView.{IsFault}
use Rattle.series_model.specs.declared.metric.MetricId.{MetricId}
use Rattle.series_model.specs.declared.ticket.Ticket.{Ticket}
use Rattle.bound_series.specs.Jobs.{IsPrepared, JobView, PreparedView}
use Rattle.incoming.specs.Posts.{Post, posts_above}
use Rattle.split_update.specs.Live.{Live}
use Rattle.shelf_records.specs.Shelved.{Shelved, metric_of}
use Rattle.split_store.specs.Shelf.{live_by}
use Rattle.split_store.specs.ShelfView.{IsChanged, IsKeptAs, IsLastingShelf, IsOldOrChanged, Keeps, LeavesOldOrChanged, ShelfView}
use Rattle.split_store.specs.Turn.{WritesBlocks}
use Rattle.sack_history.specs.declared.entry.Counted.TheVariants as counted
use Rattle.sack_history.specs.declared.entry.Entry.TheVariants as entries
use Rattle.sack_history.specs.declared.fault.CommitFault.{CommitFault}
use Rattle.sack_history.specs.declared.fault.CommitFault.TheVariants as commit_fault
use Rattle.sack_history.specs.declared.fault.SackFault.{SackFault}
use Rattle.sack_history.specs.declared.fault.SackFault.TheVariants as sack_fault
use Rattle.sack_history.specs.declared.holding.HeldClaim.{HeldClaim}
use Rattle.sack_history.specs.Holding.{held_after}
use Rattle.sack_history.specs.Scratch.{commit_live}
use Rattle.sack_state.specs.declared.books.Books.{Books}
use Rattle.sack_state.specs.declared.disks.SackDisks.{SackDisks}
use Rattle.sack_state.specs.Books.{AreLasting, AreWhole, disks_of}
use Rattle.sack_state.specs.Claiming.{AreOnlyRead, FailsRead, IsJobFrom, first_waiting, posts_per_turn}
use Rattle.sack_state.specs.Disks.{sack_faults}
use Rattle.sack_state.specs.SackView.{marks_waiting}
use Rattle.sack_state.specs.Waiting.{numbers_waiting}

-- ---- the work of a claim

-- the done number of a metric as the shelf's records have it, if it is live
abbrev pub done_in_record : Option Shelved → ℕ
done_in_record None = 0
done_in_record (Some m) = m.done

-- A job is that of a claim, by the metrics as the books know them, by the posts, and by the live metrics that the shelf
-- keeps.
pub record IsWorkBy (metrics : List Shelved) (posts : List Post) (lives : List Live) (claim : HeldClaim) (job : JobView) : Type 0 where
  pub metric : job.metric ≡ claim.metric
  pub upto : job.upto ≡ claim.upto
  pub policy : option_map (λ m. m.policy) (metric_of claim.metric metrics) ≡ Some job.policy
  pub base : option_map (λ l. l.raw) (live_by claim.metric lives) ≡ Some job.base
  pub batches : job.batches ≡ map (λ p. p.measures) (filter (λ p. nat_le p.number claim.upto) (take posts_per_turn (posts_above claim.metric (done_in_record (metric_of claim.metric metrics)) posts)))

-- a fact of the posts and of the live metrics of books that have a durable state
abbrev pub ByBooks : {D : Type 0} → Ghosts D → Books D → (List Post → List Live → Type 0) → Type 0
ByBooks g b P = (posts : List Post) (lives : List Live) → b.incoming.posts ≡ Some posts → Keeps g b.shelf lives → P posts lives

abbrev pub IsWork : {D : Type 0} → Ghosts D → Books D → HeldClaim → JobView → Type 0
IsWork g b claim job = ByBooks g b (λ posts lives. IsWorkBy b.shelf.metrics posts lives claim job)

abbrev pub IsNoWork : {D : Type 0} → Ghosts D → Books D → HeldClaim → JobView → Type 0
IsNoWork g b claim job = ByBooks g b (λ posts lives. IsWorkBy b.shelf.metrics posts lives claim job → ⊥)

-- What a look at the books says of a job, on books that aren't broken: whether it is the work of a claim.
pub data ReadsWork {D : Type 0} (g : Ghosts D) (claim : HeldClaim) (job : JobView) (old new : Books D) (result : Result Bool SackFault) : Type 0 where
  same : (m : Shelved) → metric_of claim.metric old.shelf.metrics ≡ Some m → job.metric ≡ claim.metric → job.policy ≡ m.policy → job.upto ≡ claim.upto → IsWork g old claim job
      → AreOnlyRead g old new → AreWhole new → (AreLasting g old → AreLasting g new) → result ≡ Ok true → ReadsWork g claim job old new result
  other : IsNoWork g old claim job → AreOnlyRead g old new → AreWhole new → (AreLasting g old → AreLasting g new) → result ≡ Ok false → ReadsWork g claim job old new result
  not_read : (e : SackFault) → AreOnlyRead g old new → FailsRead g old new e → result ≡ Err e → ReadsWork g claim job old new result

-- ---- what is written

-- Prepared work was written to the shelf, whole or in part: at every moment a stop leaves the metrics as they were, or
-- with this one as it is after the commit.
pub record WritesTurn {D : Type 0} (g : Ghosts D) (p : PreparedView) (old new : ShelfView D) : Type 0 where
  pub place : new.place ≡ old.place
  pub any_moment : IsOldOrChanged g (commit_live p.job.metric p) old new
  pub left : LeavesOldOrChanged g (commit_live p.job.metric p) old new
  pub came_first : g.came 4 old.first new.first
  pub came_second : g.came 4 old.second new.second
  pub metrics : List Shelved
  pub blocks : WritesBlocks g metrics p old.blocks new.blocks

-- the shelf has the metrics with this one as it is after the commit, and so has what a stop leaves
pub record HasWritten {D : Type 0} (g : Ghosts D) (p : PreparedView) (old new : ShelfView D) : Type 0 where
  pub changed : IsChanged g (commit_live p.job.metric p) old new
  pub lasting : IsLastingShelf g new

-- a disk failed while prepared work was written: the shelf has broken, and knows what it knew
pub record HasNotWritten {D : Type 0} (g : Ghosts D) (old new : ShelfView D) : Type 0 where
  pub kept : IsKeptAs g old new
  pub metrics : new.metrics ≡ old.metrics
  pub broken : new.broken ≡ true

-- ---- a turn of a refresh or a drain

-- the ticket of a turn that no claim is held for
abbrev pub no_ticket : Ticket
no_ticket = record { sack = 0; number = 0 }

-- Work was read off the books, which stand so then, and prepared.
pub record IsReadied {D : Type 0} (g : Ghosts D) (IsJob : JobView → Type 0) (p : PreparedView) (old mid : Books D) : Type 0 where
  pub job : IsJob p.job
  pub prepared : IsPrepared p
  pub read : AreOnlyRead g old mid
  pub lasting : AreLasting g old → AreLasting g mid

-- What writing of work that is ready gives, on books that aren't broken.
pub data WritesFrom {D : Type 0} (g : Ghosts D) (IsJob : JobView → Type 0) (p : PreparedView) (old new : Books D) (result : Result (Unit {0}) SackFault) : Type 0 where
  written : (mid : Books D) → IsReadied g IsJob p old mid → new.incoming ≡ mid.incoming → WritesTurn g p mid.shelf new.shelf → HasWritten g p mid.shelf new.shelf
      → AreWhole new → (AreLasting g old → AreLasting g new) → result ≡ Ok tt → WritesFrom g IsJob p old new result
  broke : (mid : Books D) (f : Fault) → IsReadied g IsJob p old mid → new.incoming ≡ mid.incoming → WritesTurn g p mid.shelf new.shelf → HasNotWritten g mid.shelf new.shelf
      → IsFault (sack_faults g (disks_of old)) (sack_faults g (disks_of new)) f → result ≡ Err (sack_fault.DiskFault f) → WritesFrom g IsJob p old new result
  unwritten : (e : SackFault) → AreOnlyRead g old new → FailsRead g old new e → result ≡ Err e → WritesFrom g IsJob p old new result

-- What a turn of a metric with a post that waits gives, on books that aren't broken.
pub data TakesTurn {D : Type 0} (g : Ghosts D) (metric : MetricId) (old new : Books D) (result : Result (Unit {0}) SackFault) : Type 0 where
  took : (p : PreparedView) → WritesFrom g (IsJobFrom g old metric no_ticket) p old new result → TakesTurn g metric old new result
  unread : (e : SackFault) → AreOnlyRead g old new → FailsRead g old new e → result ≡ Err e → TakesTurn g metric old new result

-- The metric whose turn is next, if any post waits: of one metric alone, or of all that whose post has waited longest.
abbrev pub turn_due : {D : Type 0} → Option MetricId → Books D → Option MetricId
turn_due None b = option_map (λ mark. mark.metric) (slice_get (marks_waiting b) 0)
turn_due (Some metric) b = option_map (λ mark. metric) (first_waiting b metric)

-- a claim after a turn of a metric: one of this metric has ended
abbrev pub claim_past : MetricId → Option HeldClaim → Option HeldClaim
claim_past metric held = held_after held (entries.Counted (counted.Done metric 0))

-- So many turns were taken, each of the metric whose turn was next, and this is left of the claim that was held.
pub data TurnsTaken {D : Type 0} (g : Ghosts D) (only : Option MetricId) (held : Option HeldClaim) (old : Books D) : Books D → ℕ → Option HeldClaim → Type 0 where
  none : (new : Books D) (turns : ℕ) (left : Option HeldClaim) → new ≡ old → turns ≡ 0 → left ≡ held → TurnsTaken g only held old new turns left
  more : (new mid : Books D) (turns before : ℕ) (left between : Option HeldClaim) (metric : MetricId) → TurnsTaken g only held old mid before between → turn_due only mid ≡ Some metric → TakesTurn g metric mid new (Ok tt)
      → turns ≡ suc before → left ≡ claim_past metric between → TurnsTaken g only held old new turns left

-- What turns give, of which there may be so many: they end where none is next, or the most were taken; or one failed.
pub data TakesTurns {D : Type 0} (g : Ghosts D) (only : Option MetricId) (most : ℕ) (held : Option HeldClaim) (old new : Books D) (result : Result (Unit {0}) SackFault) (turns : ℕ) (left : Option HeldClaim) : Type 0 where
  ended : TurnsTaken g only held old new turns left → turns ≤ most → (turn_due only new ≡ None) ⊎ (turns ≡ most) → AreWhole new → (AreLasting g old → AreLasting g new) → result ≡ Ok tt
      → TakesTurns g only most held old new result turns left
  failed_at : (mid : Books D) (metric : MetricId) (e : SackFault) → TurnsTaken g only held old mid turns left → turns < most → AreWhole mid → (AreLasting g old → AreLasting g mid) → turn_due only mid ≡ Some metric
      → TakesTurn g metric mid new (Err e) → result ≡ Err e → TakesTurns g only most held old new result turns left

-- the answer where it is Ok
abbrev pub map_ok : {A B F : Type 0} → (A → B) → Result A F → Result B F
map_ok f (Ok a) = Ok (f a)
map_ok f (Err e) = Err e

-- What a refresh gives: the done number of a live metric of which nothing waits any more.
pub data RefreshesFrom {D : Type 0} (g : Ghosts D) (metric : MetricId) (held : Option HeldClaim) (old new : Books D) (result : Result ℕ SackFault) (turns : ℕ) (left : Option HeldClaim) : Type 0 where
  unknown : metric_of metric old.shelf.metrics ≡ None → new ≡ old → result ≡ Err sack_fault.Unknown → turns ≡ 0 → left ≡ held → RefreshesFrom g metric held old new result turns left
  turned : (given : Result (Unit {0}) SackFault) → IsSome (metric_of metric old.shelf.metrics) → TakesTurns g (Some metric) (length (numbers_waiting old metric)) held old new given turns left
      → result ≡ map_ok (λ done. done_in_record (metric_of metric new.shelf.metrics)) given → RefreshesFrom g metric held old new result turns left

-- What a drain gives: the number of its turns.
pub data DrainsFrom {D : Type 0} (g : Ghosts D) (held : Option HeldClaim) (old new : Books D) (result : Result ℕ SackFault) (turns : ℕ) (left : Option HeldClaim) : Type 0 where
  drained : (given : Result (Unit {0}) SackFault) → TakesTurns g None (length (marks_waiting old)) held old new given turns left → result ≡ map_ok (λ done. turns) given → DrainsFrom g held old new result turns left

-- how many entries turns add: a look where none was taken, and one for what failed
abbrev pub entries_of_turns : ℕ → Bool → ℕ
entries_of_turns zero ok = 1
entries_of_turns (suc turns) true = suc turns
entries_of_turns (suc turns) false = suc (suc turns)

-- ---- commits

-- how a commit answers a fault of a sack: where there was no memory, the prepared work is handed back
abbrev pub commit_fault_of : PreparedView → SackFault → CommitFault
commit_fault_of p (sack_fault.DiskFault f) = commit_fault.DiskFault f
commit_fault_of p (sack_fault.Damaged d) = commit_fault.Damaged d
commit_fault_of p sack_fault.Memory = commit_fault.Memory p
commit_fault_of p sack_fault.Unknown = commit_fault.Memory p
commit_fault_of p (sack_fault.Spent s) = commit_fault.Memory p

-- the claim that is held has the ticket of prepared work
pub record HoldsTicket (held : Option HeldClaim) (p : PreparedView) (claim : HeldClaim) : Type 0 where
  pub held_is : held ≡ Some claim
  pub ticket_is : claim.ticket ≡ p.job.ticket

-- What a commit gives on books that aren't broken, where this claim is held.
pub data CommitsFrom {D : Type 0} (g : Ghosts D) (held : Option HeldClaim) (p : PreparedView) (old new : Books D) (result : Result ℕ CommitFault) : Type 0 where
  not_held : option_map (λ claim. claim.ticket) held ≢ Some p.job.ticket → new ≡ old
      → result ≡ Err (commit_fault.NotHolder p.job.ticket (option_map (λ claim. claim.ticket) held)) → CommitsFrom g held p old new result
  differs : (claim : HeldClaim) → HoldsTicket held p claim → AreOnlyRead g old new → AreWhole new → (AreLasting g old → AreLasting g new) → IsNoWork g old claim p.job
      → result ≡ Err (commit_fault.Differs p) → CommitsFrom g held p old new result
  done : (claim : HeldClaim) → HoldsTicket held p claim → WritesFrom g (IsWork g old claim) p old new (Ok tt) → result ≡ Ok p.job.upto → CommitsFrom g held p old new result
  undone : (claim : HeldClaim) (e : SackFault) → HoldsTicket held p claim → WritesFrom g (IsWork g old claim) p old new (Err e)
      → result ≡ Err (commit_fault_of p e) → CommitsFrom g held p old new result

-- What a commit does to the disks of a sack that it may have mounted first: the blocks are written once for each slot of
-- its work, if at all.
pub record CameByCommit {D : Type 0} (g : Ghosts D) (p : PreparedView) (old new : SackDisks D) : Type 0 where
  pub incoming_a : g.came 2 old.incoming_a new.incoming_a
  pub incoming_b : g.came 2 old.incoming_b new.incoming_b
  pub shelf_a : g.came 6 old.shelf_a new.shelf_a
  pub shelf_b : g.came 6 old.shelf_b new.shelf_b
  pub mid : D
  pub first : g.came 1 old.blocks mid
  pub metrics : List Shelved
  pub then : WritesBlocks g metrics p mid new.blocks

-- Claims on the books of a sack.
use Rattle.std.specs.Prelude.{◌≡◌, ◌⊎◌, ℕ, ◌+◌, ◌<◌, ◌≤◌, nat_lt, if◌then◌else◌, true, List, map, take, Option, Some, None, Result, Ok, Err, IfSome, option_map, slice_get}
use Rattle.std.specs.List.{fold}
use Rattle.gno_num.specs.declared.faults.Counter.TheVariants as counter
use Rattle.gno_num.specs.declared.faults.Damaged.{Damaged as Damage}
use Rattle.gno_num.specs.declared.faults.DiskFault.{DiskFault as Fault}
use Rattle.gno_disk.specs.declared.disk.Disk.{Ghosts}
use Rattle.gno_disk.specs.Phases.{AreUnwritten}
use Rattle.gate_log.specs.LogView.{IsFault}
use Rattle.series_model.specs.declared.metric.MetricId.{MetricId}
use Rattle.series_model.specs.declared.ticket.Ticket.{Ticket}
use Rattle.bound_series.specs.Jobs.{JobView}
use Rattle.incoming.specs.declared.mark.Mark.{Mark}
use Rattle.incoming.specs.IncomingView.{incoming_phases}
use Rattle.incoming.specs.Posts.{numbers_above, posts_above}
use Rattle.split_update.specs.Live.{Live}
use Rattle.shelf_records.specs.Shelved.{Shelved, metric_of}
use Rattle.split_store.specs.Shelf.{live_by}
use Rattle.split_store.specs.ShelfView.{IsOnlySeen, Keeps}
use Rattle.sack_history.specs.declared.fault.Claim.{Claim}
use Rattle.sack_history.specs.declared.fault.Claim.TheVariants as claims
use Rattle.sack_history.specs.declared.fault.SackFault.{SackFault}
use Rattle.sack_history.specs.declared.fault.SackFault.TheVariants as sack_fault
use Rattle.sack_history.specs.declared.holding.HeldClaim.{HeldClaim}
use Rattle.sack_history.specs.Calls.{spent_at}
use Rattle.sack_state.specs.declared.books.Books.{Books}
use Rattle.sack_state.specs.Books.{AreLasting, AreWhole, disks_of}
use Rattle.sack_state.specs.Disks.{sack_faults}
use Rattle.sack_state.specs.Holding.{are_broken}
use Rattle.sack_state.specs.SackView.{marks_waiting}
use Rattle.sack_state.specs.Waiting.{numbers_waiting}

-- ---- the post that has waited longest

-- the first of a metric's posts that wait, if any does
abbrev pub first_waiting : {D : Type 0} → Books D → MetricId → Option Mark
first_waiting b metric = option_map (λ number. record { number = number; metric = metric }) (slice_get (numbers_waiting b metric) 0)

-- of two marks that there may be, the one with the smaller number; the first where both have it
abbrev pub smaller : Option Mark → Option Mark → Option Mark
smaller None b = b
smaller (Some m) None = Some m
smaller (Some m) (Some n) = if nat_lt n.number m.number then Some n else Some m

-- ---- reading the books

-- The books were read and not written: they know what they knew, and a stop leaves nothing new.
pub record AreOnlyRead {D : Type 0} (g : Ghosts D) (old new : Books D) : Type 0 where
  pub marks : new.incoming.marks ≡ old.incoming.marks
  pub next : new.incoming.next ≡ old.incoming.next
  pub posts : new.incoming.posts ≡ old.incoming.posts
  pub place : new.incoming.place ≡ old.incoming.place
  pub unwritten : AreUnwritten g (incoming_phases old.incoming new.incoming)
  pub came_first : g.came 0 old.incoming.first new.incoming.first
  pub came_second : g.came 0 old.incoming.second new.incoming.second
  pub shelf : IsOnlySeen g old.shelf new.shelf

-- Books that have no durable state: the posts aren't told, or the shelf keeps no live metrics.
abbrev pub KeepsNone : {D : Type 0} → Ghosts D → Books D → Type 0
KeepsNone g b = (b.incoming.posts ≡ None) ⊎ ((lives : List Live) → Keeps g b.shelf lives → ⊥)

-- Why a reading failed: a fault of a disk, or damage, which comes only where the books have no durable state; the books
-- have broken then. Or want of memory, after which they haven't.
pub data FailsRead {D : Type 0} (g : Ghosts D) (old new : Books D) (e : SackFault) : Type 0 where
  failed : (f : Fault) → are_broken new ≡ true → IsFault (sack_faults g (disks_of old)) (sack_faults g (disks_of new)) f → e ≡ sack_fault.DiskFault f → FailsRead g old new e
  damaged : (d : Damage) → are_broken new ≡ true → KeepsNone g old → e ≡ sack_fault.Damaged d → FailsRead g old new e
  starved : AreWhole new → (AreLasting g old → AreLasting g new) → e ≡ sack_fault.Memory → FailsRead g old new e

-- ---- jobs

-- how many posts a turn takes
abbrev pub posts_per_turn : ℕ
posts_per_turn = 64

-- the last of the numbers, the given one where there is none
abbrev pub last_number_of : ℕ → List ℕ → ℕ
last_number_of before numbers = fold (λ n number. number) before numbers

-- A job of a metric's first posts that wait, as the books know them: it has the metric's policy, the number of the last
-- of the posts, their batches where they are told, and the raw series that the shelf keeps.
pub record IsJobFrom {D : Type 0} (g : Ghosts D) (b : Books D) (metric : MetricId) (ticket : Ticket) (job : JobView) : Type 0 where
  pub known : Shelved
  pub found : metric_of metric b.shelf.metrics ≡ Some known
  pub ticket_is : job.ticket ≡ ticket
  pub metric_is : job.metric ≡ metric
  pub policy : job.policy ≡ known.policy
  pub upto : job.upto ≡ last_number_of 0 (take posts_per_turn (numbers_above metric known.done b.incoming.marks))
  pub batches : IfSome b.incoming.posts (λ posts. job.batches ≡ map (λ p. p.measures) (take posts_per_turn (posts_above metric known.done posts)))
  pub base : (lives : List Live) → Keeps g b.shelf lives → option_map (λ l. l.raw) (live_by metric lives) ≡ Some job.base

-- What a making of a job gives, on books that aren't broken.
pub data ReadsJob {D : Type 0} (g : Ghosts D) (metric : MetricId) (ticket : Ticket) (old new : Books D) (result : Result JobView SackFault) : Type 0 where
  read : (job : JobView) → IsJobFrom g old metric ticket job → AreOnlyRead g old new → AreWhole new → (AreLasting g old → AreLasting g new) → result ≡ Ok job
      → ReadsJob g metric ticket old new result
  not_read : (e : SackFault) → AreOnlyRead g old new → FailsRead g old new e → result ≡ Err e → ReadsJob g metric ticket old new result

-- ---- claims

-- no claim is held, and this is the first of the posts that wait
pub record HasFirst {D : Type 0} (held : Option HeldClaim) (b : Books D) (first : Mark) : Type 0 where
  pub free : held ≡ None
  pub is : slice_get (marks_waiting b) 0 ≡ Some first

-- What a claim gives on books that aren't broken, where this claim is held and so many tickets were given.
pub data ClaimsFrom {D : Type 0} (g : Ghosts D) (held : Option HeldClaim) (sack tickets : ℕ) (old new : Books D) (result : Result Claim SackFault) : Type 0 where
  holds : (claim : HeldClaim) → held ≡ Some claim → new ≡ old → result ≡ Ok (claims.Held claim.ticket) → ClaimsFrom g held sack tickets old new result
  nothing : held ≡ None → slice_get (marks_waiting old) 0 ≡ None → new ≡ old → result ≡ Ok claims.Nothing → ClaimsFrom g held sack tickets old new result
  spent : (first : Mark) → HasFirst held old first → spent_at ≤ tickets + 1 → new ≡ old
      → result ≡ Err (sack_fault.Spent (record { counter = counter.Ticket; at = spent_at })) → ClaimsFrom g held sack tickets old new result
  given : (first : Mark) (job : JobView) → HasFirst held old first → tickets + 1 < spent_at
      → IsJobFrom g old first.metric (record { sack = sack; number = tickets + 1 }) job → AreOnlyRead g old new → AreWhole new → (AreLasting g old → AreLasting g new)
      → result ≡ Ok (claims.Job job) → ClaimsFrom g held sack tickets old new result
  not_given : (first : Mark) (e : SackFault) → HasFirst held old first → tickets + 1 < spent_at → AreOnlyRead g old new → FailsRead g old new e
      → result ≡ Err e → ClaimsFrom g held sack tickets old new result

-- the claim that is held after a claim with this answer
abbrev pub claim_given : Option HeldClaim → Result Claim SackFault → Option HeldClaim
claim_given held (Ok (claims.Job job)) = Some (record { ticket = job.ticket; metric = job.metric; upto = job.upto })
claim_given held (Ok (claims.Held ticket)) = held
claim_given held (Ok claims.Nothing) = held
claim_given held (Err e) = held

-- the number of the last ticket after a claim with this answer
abbrev pub tickets_given : ℕ → Result Claim SackFault → ℕ
tickets_given tickets (Ok (claims.Job job)) = job.ticket.number
tickets_given tickets (Ok (claims.Held ticket)) = tickets
tickets_given tickets (Ok claims.Nothing) = tickets
tickets_given tickets (Err e) = tickets

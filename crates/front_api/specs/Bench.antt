-- What each call of a bench answers, what it adds to the histories that the bench has seen, and what the bench counts.
use Rattle.std.specs.Prelude.{◌≡◌, ◌≢◌, ℕ, ◌+◌, List, Some, Result, Ok, Err, slice_get}
use Rattle.series_model.specs.declared.ticket.Ticket.{Ticket}
use Rattle.bound_series.specs.Jobs.{JobView, PreparedView}
use Rattle.sack_history.specs.declared.entry.Entry.{Entry}
use Rattle.sack_history.specs.declared.fault.Claim.{Claim}
use Rattle.sack_history.specs.declared.fault.Claim.TheVariants as claims
use Rattle.sack_history.specs.declared.fault.CommitFault.TheVariants as commit_fault
use Rattle.sack_history.specs.declared.fault.ReleaseFault.TheVariants as release_fault
use Rattle.sack_history.specs.declared.fault.SackFault.{SackFault}
use Rattle.sack_history.specs.Calls.{IsClaiming, IsCommitting, IsReleasing}
use Rattle.front_api.specs.declared.bench.BenchFault.{BenchFault}
use Rattle.front_api.specs.declared.bench.BenchFault.TheVariants as bench_fault
use Rattle.front_api.specs.declared.bench.Claimed.{Claimed}
use Rattle.front_api.specs.declared.bench.Claimed.TheVariants as claimed
use Rattle.front_api.specs.declared.bench.FreeFault.{FreeFault}
use Rattle.front_api.specs.declared.bench.FreeFault.TheVariants as free_fault
use Rattle.front_api.specs.declared.duty.LastClaim.{LastClaim}
use Rattle.front_api.specs.declared.duty.LastClaim.TheVariants as last_claim
use Rattle.front_api.specs.declared.duty.Refusals.{Refusals}
use Rattle.front_api.specs.FaultWords.{bench_words, free_words, sack_words}
use Rattle.front_api.specs.Seen.{EntersSack, SeenBooks, capped}

-- ---- what the bench keeps

-- what a bench has done for workers: the refusals that it has counted, and for each sack what its last claim gave
pub record Duty : Type 0 where
  pub refusals : Refusals
  pub last_claims : List LastClaim

-- what a claim with this answer was
abbrev pub last_claim_of : {J : Type 0} → Result (Claimed J) SackFault → LastClaim
last_claim_of (Ok (claimed.Job job)) = last_claim.GaveJob
last_claim_of (Ok (claimed.Held ticket)) = last_claim.GaveNone
last_claim_of (Ok claimed.Nothing) = last_claim.GaveNone
last_claim_of (Err fault) = last_claim.GaveNone

-- a claim on this sack was the last one there, and nothing else has changed
pub record NotesClaim (sack : ℕ) (last : LastClaim) (old new : Duty) : Type 0 where
  pub here : slice_get new.last_claims sack ≡ Some last
  pub elsewhere : (other : ℕ) → other ≢ sack → slice_get new.last_claims other ≡ slice_get old.last_claims other
  pub refusals : new.refusals ≡ old.refusals

-- one stale commit more, one fault more, one job more that was starved
abbrev pub one_stale : Refusals → Refusals
one_stale r = record r { stale = capped (r.stale + 1) }

abbrev pub one_fault : Refusals → Refusals
one_fault r = record r { faults = capped (r.faults + 1) }

abbrev pub one_starved : Refusals → Refusals
one_starved r = record r { starved = capped (r.starved + 1) }

-- the refusals after a commit with this answer
abbrev pub counted_commit : {S : Type 0} → Result ℕ (BenchFault S) → Refusals → Refusals
counted_commit (Ok done) r = r
counted_commit (Err (bench_fault.Stale given holder)) r = one_stale r
counted_commit (Err (bench_fault.Differs starved)) r = r
counted_commit (Err (bench_fault.Spent s)) r = one_fault r
counted_commit (Err (bench_fault.DiskFault f)) r = one_fault r
counted_commit (Err (bench_fault.Damaged d)) r = one_fault r
counted_commit (Err (bench_fault.Memory starved)) r = r

-- ---- calls

-- what a claim gives, as the sack's claim, where a job has this meaning
abbrev pub as_claim : {J : Type 0} → (J → JobView) → Claimed J → Claim
as_claim view (claimed.Job job) = claims.Job (view job)
as_claim view (claimed.Held ticket) = claims.Held ticket
as_claim view claimed.Nothing = claims.Nothing

-- work is claimed on the sack of this number
abbrev pub SaysClaim : {J : Type 0} → (J → JobView) → ℕ → Result (Claimed J) SackFault → List Entry → List Entry → Type 0
SaysClaim view sack (Ok given) before own = IsClaiming sack (Ok (as_claim view given)) before own
SaysClaim view sack (Err fault) before own = IsClaiming sack (Err fault) before own

abbrev pub ClaimsWork : {J : Type 0} → (J → JobView) → ℕ → Result (Claimed J) SackFault → SeenBooks → SeenBooks → Type 0
ClaimsWork view sack result old new = EntersSack sack sack_words (SaysClaim view sack) result old new

-- a job that was given has a ticket of this sack
abbrev pub IsOfSack : {J : Type 0} → (J → JobView) → ℕ → Claimed J → Type 0
IsOfSack view sack (claimed.Job job) = (view job).ticket.sack ≡ sack
IsOfSack view sack (claimed.Held ticket) = Unit {0}
IsOfSack view sack claimed.Nothing = Unit {0}

-- Prepared work of this meaning is committed. What a refusal hands back is that work; a lock's refusal is none of the
-- sack's.
abbrev pub SaysCommit : {S : Type 0} → PreparedView → Result ℕ (BenchFault S) → List Entry → List Entry → Type 0
SaysCommit p (Ok done) before own = IsCommitting p (Ok done) before own
SaysCommit p (Err (bench_fault.Stale given holder)) before own = IsCommitting p (Err (commit_fault.NotHolder given holder)) before own
SaysCommit p (Err (bench_fault.Differs starved)) before own = IsCommitting p (Err (commit_fault.Differs p)) before own
SaysCommit p (Err (bench_fault.Spent s)) before own = ⊥
SaysCommit p (Err (bench_fault.DiskFault f)) before own = IsCommitting p (Err (commit_fault.DiskFault f)) before own
SaysCommit p (Err (bench_fault.Damaged d)) before own = IsCommitting p (Err (commit_fault.Damaged d)) before own
SaysCommit p (Err (bench_fault.Memory starved)) before own = IsCommitting p (Err (commit_fault.Memory p)) before own

abbrev pub Commits : {S : Type 0} → PreparedView → Result ℕ (BenchFault S) → SeenBooks → SeenBooks → Type 0
Commits p result old new = EntersSack p.job.ticket.sack bench_words (SaysCommit p) result old new

-- what a refused commit hands back stands for this ticket
abbrev pub StandsForTicket : {S : Type 0} → (S → Ticket) → Ticket → BenchFault S → Type 0
StandsForTicket ticket_of ticket (bench_fault.Differs starved) = ticket_of starved ≡ ticket
StandsForTicket ticket_of ticket (bench_fault.Memory starved) = ticket_of starved ≡ ticket
StandsForTicket ticket_of ticket fault = Unit {0}

-- a claim is released; a lock's refusal is none of the sack's
abbrev pub SaysRelease : Ticket → Result (Unit {0}) FreeFault → List Entry → List Entry → Type 0
SaysRelease ticket (Ok done) before own = IsReleasing ticket (Ok done) before own
SaysRelease ticket (Err (free_fault.Stale given holder)) before own = IsReleasing ticket (Err (release_fault.NotHolder given holder)) before own
SaysRelease ticket (Err (free_fault.Spent s)) before own = ⊥

abbrev pub Releases : Ticket → Result (Unit {0}) FreeFault → SeenBooks → SeenBooks → Type 0
Releases ticket result old new = EntersSack ticket.sack free_words (SaysRelease ticket) result old new

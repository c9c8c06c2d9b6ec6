-- What each call on a sack answers and adds, by the entries before it.
use Rattle.std.specs.Prelude.{◌≡◌, ◌≢◌, ◌⊎◌, ℕ, ◌+◌, ◌==◌, ◌<◌, ◌≤◌, ◌^◌, nat_le, if◌then◌else◌, List, [], ◌∷◌, ◌++◌, map, length, take, Option, Some, None, Result, Ok, Err, IsTrue, slice_get}
use Rattle.std.specs.List.{filter}
use Rattle.gno_num.specs.declared.faults.Counter.TheVariants as counter
use Rattle.archive_policy.specs.Policies.{ArchivePolicy}
use Rattle.series_model.specs.declared.answer.Row.{Row}
use Rattle.series_model.specs.declared.measure.Measure.{Measure}
use Rattle.series_model.specs.declared.metric.MetricId.{MetricId}
use Rattle.series_model.specs.declared.query.Query.{Query}
use Rattle.series_model.specs.declared.ticket.Ticket.{Ticket}
use Rattle.series_model.specs.Tail.{accepted_under, kept_window}
use Rattle.bound_series.specs.Jobs.{JobView, PreparedView}
use Rattle.sack_history.specs.declared.entry.Counted.{Counted}
use Rattle.sack_history.specs.declared.entry.Counted.TheVariants as counted
use Rattle.sack_history.specs.declared.entry.Entry.{Entry}
use Rattle.sack_history.specs.declared.entry.Entry.TheVariants as entries
use Rattle.sack_history.specs.declared.fault.AnswerFault.{AnswerFault}
use Rattle.sack_history.specs.declared.fault.Claim.{Claim}
use Rattle.sack_history.specs.declared.fault.Claim.TheVariants as claims
use Rattle.sack_history.specs.declared.fault.CommitFault.{CommitFault}
use Rattle.sack_history.specs.declared.fault.CommitFault.TheVariants as commit_fault
use Rattle.sack_history.specs.declared.fault.CreateFault.{CreateFault}
use Rattle.sack_history.specs.declared.fault.CreateFault.TheVariants as create_fault
use Rattle.sack_history.specs.declared.fault.ReleaseFault.{ReleaseFault}
use Rattle.sack_history.specs.declared.fault.ReleaseFault.TheVariants as release_fault
use Rattle.sack_history.specs.declared.fault.SackFault.{SackFault}
use Rattle.sack_history.specs.declared.fault.SackFault.TheVariants as sack_fault
use Rattle.sack_history.specs.Answering.{answer_refusal, answer_rows}
use Rattle.sack_history.specs.Entries.{all_counted, kept}
use Rattle.sack_history.specs.Failing.{Failure, no_memory, on_disk, damage, FailsBehind, IsMounted, IsOutcome, MayFail, answer_failure, create_failure, sack_failure}
use Rattle.sack_history.specs.declared.holding.HeldClaim.{HeldClaim}
use Rattle.sack_history.specs.Holding.{held_claim, holder_of, last_ticket}
use Rattle.sack_history.specs.Lives.{batches_of, done_of, is_live, live_policy, next_post, pending_of}
use Rattle.sack_history.specs.Turns.{drain_turns, longest_waiting, refresh_turns, turn_end}

-- the last value of the numbers of posts and of tickets: none has it
abbrev pub spent_at : ℕ
spent_at = 2 ^ 63

-- ---- calls that add one entry

-- A call that adds at most one entry to what counts, `next`. It is refused where `refusal` says why, else it
-- gives a value, and it may fail where it isn't refused.
abbrev pub IsSimple : {T F : Type 0} → Option F → (Failure → F) → Option MetricId → Option Counted → (T → List Entry → Type 0) → Result T F → List Entry → Type 0
IsSimple refusal fault metric next Gives result own =
    IsOutcome (λ value added. (refusal ≡ None) × Gives value added) (λ f. refusal ≡ Some f)
    (λ failure added. MayFail (refusal ≡ None) failure × FailsBehind [] next metric failure added) fault metric result own

-- why a metric isn't created
abbrev pub create_refusal : MetricId → List Counted → Option CreateFault
create_refusal metric counts = if is_live metric counts then Some create_fault.Exists else None

-- a metric is created, on a book that isn't broken
abbrev pub CreatesNow : MetricId → ArchivePolicy → Result (Unit {0}) CreateFault → List Entry → List Entry → Type 0
CreatesNow metric policy result now added =
    IsSimple (create_refusal metric (kept now)) create_failure (Some metric) (Some (counted.Create metric policy))
    (λ done more. more ≡ entries.Counted (counted.Create metric policy) ∷ []) result added

-- a metric is created
abbrev pub IsCreating : MetricId → ArchivePolicy → Result (Unit {0}) CreateFault → List Entry → List Entry → Type 0
IsCreating metric policy result before own =
    IsMounted (Some metric) (CreatesNow metric policy result) (λ failure. result ≡ Err (create_failure failure)) before own

-- why a call on a metric that isn't live is refused
abbrev pub unknown : MetricId → List Counted → Option SackFault
unknown metric counts = if is_live metric counts then None else Some sack_fault.Unknown

-- a metric is dropped, on a book that isn't broken
abbrev pub DropsNow : MetricId → Result (Unit {0}) SackFault → List Entry → List Entry → Type 0
DropsNow metric result now added =
    IsSimple (unknown metric (kept now)) sack_failure (Some metric) (Some (counted.Drop metric))
    (λ done more. more ≡ entries.Counted (counted.Drop metric) ∷ []) result added

-- a metric is dropped
abbrev pub IsDropping : MetricId → Result (Unit {0}) SackFault → List Entry → List Entry → Type 0
IsDropping metric result before own =
    IsMounted (Some metric) (DropsNow metric result) (λ failure. result ≡ Err (sack_failure failure)) before own

-- why a batch isn't posted: the metric isn't live, or there is no number for it
abbrev pub post_refusal : MetricId → List Counted → Option SackFault
post_refusal metric counts =
    if is_live metric counts then
    (if next_post counts == spent_at then Some (sack_fault.Spent (record { counter = counter.PostNumber; at = spent_at })) else None)
    else Some sack_fault.Unknown

-- a batch is posted, on a book that isn't broken
abbrev pub PostsNow : MetricId → List Measure → Result ℕ SackFault → List Entry → List Entry → Type 0
PostsNow metric measures result now added =
    IsSimple (post_refusal metric (kept now)) sack_failure (Some metric) (Some (counted.Post (next_post (kept now)) metric measures))
    (λ number more. (number ≡ next_post (kept now)) × (more ≡ entries.Counted (counted.Post number metric measures) ∷ [])) result added

-- a batch is posted, and its number given
abbrev pub IsPosting : MetricId → List Measure → Result ℕ SackFault → List Entry → List Entry → Type 0
IsPosting metric measures result before own =
    IsMounted (Some metric) (PostsNow metric measures result) (λ failure. result ≡ Err (sack_failure failure)) before own

-- a query is answered, on a book that isn't broken
abbrev pub AnswersNow : MetricId → Query → Result (List Row) AnswerFault → List Entry → List Entry → Type 0
AnswersNow metric query result now added =
    IsSimple (answer_refusal metric query (kept now)) answer_failure (Some metric) None
    (λ rows more. (rows ≡ answer_rows metric query (kept now)) × (more ≡ entries.Look (Some metric) ∷ [])) result added

-- a query is answered
abbrev pub IsAnswering : MetricId → Query → Result (List Row) AnswerFault → List Entry → List Entry → Type 0
IsAnswering metric query result before own =
    IsMounted (Some metric) (AnswersNow metric query result) (λ failure. result ≡ Err (answer_failure failure)) before own

-- ---- claims

-- A job is that of a claim: its metric and its last number are the claim's, its policy is the metric's, it
-- begins with what is kept of the metric's series, and its batches are those that wait up to that number.
pub record IsJobOf (claim : HeldClaim) (counts : List Counted) (job : JobView) : Type 0 where
  pub metric : job.metric ≡ claim.metric
  pub upto : job.upto ≡ claim.upto
  pub policy : live_policy claim.metric counts ≡ Some job.policy
  pub base : job.base ≡ kept_window job.policy (accepted_under job.policy (batches_of claim.metric counts))
  pub batches : job.batches ≡ map (λ p. p.measures) (filter (λ p. nat_le p.number claim.upto) (pending_of claim.metric counts))

-- the claim that is next on a metric
abbrev pub next_claim : ℕ → MetricId → List Entry → HeldClaim
next_claim sack metric now = record {
  ticket = record { sack = sack; number = last_ticket now + 1 };
  metric = metric;
  upto = turn_end metric (kept now);
}

-- no claim is held, and this metric's post has waited longest
pub record IsClaimable (now : List Entry) (metric : MetricId) : Type 0 where
  pub free : held_claim now ≡ None
  pub first : longest_waiting (kept now) ≡ Some metric

-- what a claim gives, and what it adds
abbrev pub GivesClaim : ℕ → List Entry → Claim → List Entry → Type 0
GivesClaim sack now (claims.Held ticket) added = (holder_of now ≡ Some ticket) × (added ≡ entries.Look None ∷ [])
GivesClaim sack now claims.Nothing added =
    (held_claim now ≡ None) × (longest_waiting (kept now) ≡ None) × (added ≡ entries.Look None ∷ [])
GivesClaim sack now (claims.Job job) added =
    IsClaimable now job.metric × (last_ticket now + 1 < spent_at) × IsJobOf (next_claim sack job.metric now) (kept now) job
    × (job.ticket ≡ (next_claim sack job.metric now).ticket)
    × (added ≡ entries.Claim job.ticket job.metric job.upto ∷ [])

-- a claim is refused: there is no number for its ticket
abbrev pub RefusesClaim : List Entry → SackFault → Type 0
RefusesClaim now fault =
    ((metric : MetricId) × IsClaimable now metric) × (last_ticket now + 1 ≡ spent_at)
    × (fault ≡ sack_fault.Spent (record { counter = counter.Ticket; at = spent_at }))

-- A claim fails: there is work that it could have given. It reads, and writes nothing.
abbrev pub FailsClaim : List Entry → Failure → List Entry → Type 0
FailsClaim now failure added =
    ((metric : MetricId) × IsClaimable now metric) × MayFail (last_ticket now + 1 < spent_at) failure × FailsBehind [] None None failure added

-- work is claimed, on a book that isn't broken
abbrev pub ClaimsNow : ℕ → Result Claim SackFault → List Entry → List Entry → Type 0
ClaimsNow sack result now added = IsOutcome (GivesClaim sack now) (RefusesClaim now) (FailsClaim now) sack_failure None result added

-- work is claimed on the sack of this number
abbrev pub IsClaiming : ℕ → Result Claim SackFault → List Entry → List Entry → Type 0
IsClaiming sack result before own = IsMounted None (ClaimsNow sack result) (λ failure. result ≡ Err (sack_failure failure)) before own

-- how a commit answers a failure: where there was no memory, the prepared work is handed back
abbrev pub commit_failure : PreparedView → Failure → CommitFault
commit_failure p no_memory = commit_fault.Memory p
commit_failure p (on_disk f) = commit_fault.DiskFault f
commit_failure p (damage d) = commit_fault.Damaged d

-- the claim with this ticket is held
pub record IsHeldBy (now : List Entry) (ticket : Ticket) (claim : HeldClaim) : Type 0 where
  pub held : held_claim now ≡ Some claim
  pub ticket_is : claim.ticket ≡ ticket

-- what a commit gives, and what it adds: the work is that of the held claim
abbrev pub GivesCommit : PreparedView → List Entry → ℕ → List Entry → Type 0
GivesCommit p now done added =
    ((claim : HeldClaim) × IsHeldBy now p.job.ticket claim × IsJobOf claim (kept now) p.job) × (done ≡ p.job.upto)
    × (added ≡ entries.Counted (counted.Done p.job.metric p.job.upto) ∷ [])

-- why a commit is refused
abbrev pub RefusesCommit : PreparedView → List Entry → CommitFault → Type 0
RefusesCommit p now (commit_fault.NotHolder given holder) =
    (given ≡ p.job.ticket) × (holder ≡ holder_of now) × (holder_of now ≢ Some p.job.ticket)
RefusesCommit p now (commit_fault.Differs back) =
    (back ≡ p) × ((claim : HeldClaim) × IsHeldBy now p.job.ticket claim × (IsJobOf claim (kept now) p.job → ⊥))
RefusesCommit p now (commit_fault.DiskFault f) = ⊥
RefusesCommit p now (commit_fault.Damaged d) = ⊥
RefusesCommit p now (commit_fault.Memory back) = ⊥

-- A commit fails. A fault of a disk, or damage, comes only where the held claim has its ticket, and something
-- was tried only where the work is that of the claim.
abbrev pub FailsCommit : PreparedView → List Entry → Failure → List Entry → Type 0
FailsCommit p now failure added =
    MayFail ((claim : HeldClaim) × IsHeldBy now p.job.ticket claim) failure
    × (FailsBehind [] None (Some p.job.metric) failure added
    ⊎ (((claim : HeldClaim) × IsHeldBy now p.job.ticket claim × IsJobOf claim (kept now) p.job)
    × FailsBehind [] (Some (counted.Done p.job.metric p.job.upto)) (Some p.job.metric) failure added))

-- prepared work is committed, on a book that isn't broken
abbrev pub CommitsNow : PreparedView → Result ℕ CommitFault → List Entry → List Entry → Type 0
CommitsNow p result now added = IsOutcome (GivesCommit p now) (RefusesCommit p now) (FailsCommit p now) (commit_failure p) (Some p.job.metric) result added

-- prepared work is committed
abbrev pub IsCommitting : PreparedView → Result ℕ CommitFault → List Entry → List Entry → Type 0
IsCommitting p result before own = IsMounted (Some p.job.metric) (CommitsNow p result) (λ failure. result ≡ Err (commit_failure p failure)) before own

-- a claim is released; a book that is broken has none, and isn't mounted
abbrev pub IsReleasing : Ticket → Result (Unit {0}) ReleaseFault → List Entry → List Entry → Type 0
IsReleasing ticket (Ok done) before own = (holder_of before ≡ Some ticket) × (own ≡ entries.Release ticket ∷ [])
IsReleasing ticket (Err (release_fault.NotHolder given holder)) before own =
    (given ≡ ticket) × (holder ≡ holder_of before) × (holder_of before ≢ Some ticket) × (own ≡ entries.Look None ∷ [])

-- ---- calls that take turns

-- what a call adds that took these turns: a look where it took none
abbrev pub done_or_look : Option MetricId → List Counted → List Entry
done_or_look metric [] = entries.Look metric ∷ []
done_or_look metric (c ∷ turns) = all_counted (c ∷ turns)

-- a call fails once it has taken some of these turns; those stay
abbrev pub FailsAmong : List Counted → Option MetricId → Failure → List Entry → Type 0
FailsAmong turns metric failure added =
    (k : ℕ) × (k ≤ length turns) × FailsBehind (take k turns) (slice_get turns k) metric failure added

-- what a refresh gives, and what it adds, where these are its turns
abbrev pub GivesRefresh : MetricId → List Counted → List Counted → ℕ → List Entry → Type 0
GivesRefresh metric counts turns done added =
    IsTrue (is_live metric counts) × (done ≡ done_of metric (counts ++ turns)) × (added ≡ done_or_look (Some metric) turns)

-- all posts of a metric are processed, on a book that isn't broken
abbrev pub RefreshesNow : MetricId → Result ℕ SackFault → List Entry → List Entry → Type 0
RefreshesNow metric result now added =
    IsOutcome (GivesRefresh metric (kept now) (refresh_turns metric (kept now))) (λ f. unknown metric (kept now) ≡ Some f)
    (λ failure more. MayFail (IsTrue (is_live metric (kept now))) failure × FailsAmong (refresh_turns metric (kept now)) (Some metric) failure more)
    sack_failure (Some metric) result added

-- all posts of a metric are processed, and its done number is given
abbrev pub IsRefreshing : MetricId → Result ℕ SackFault → List Entry → List Entry → Type 0
IsRefreshing metric result before own =
    IsMounted (Some metric) (RefreshesNow metric result) (λ failure. result ≡ Err (sack_failure failure)) before own

-- all posts of all metrics are processed, on a book that isn't broken
abbrev pub DrainsNow : Result ℕ SackFault → List Entry → List Entry → Type 0
DrainsNow result now added =
    IsOutcome (λ number more. (number ≡ length (drain_turns (kept now))) × (more ≡ done_or_look None (drain_turns (kept now)))) (λ f. ⊥)
    (FailsAmong (drain_turns (kept now)) None) sack_failure None result added

-- all posts of all metrics are processed, and the number of turns is given
abbrev pub IsDraining : Result ℕ SackFault → List Entry → List Entry → Type 0
IsDraining result before own = IsMounted None (DrainsNow result) (λ failure. result ≡ Err (sack_failure failure)) before own

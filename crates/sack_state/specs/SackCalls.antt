-- What calls on a sack say of their refusals.
use Rattle.std.specs.Prelude.{◌≡◌, ℕ, Bool, true, false, Option, Some, None, ⊤}
use Rattle.gno_num.specs.declared.faults.DiskFault.{DiskFault as Fault}
use Rattle.series_model.specs.declared.ticket.Ticket.{Ticket}
use Rattle.bound_series.specs.Jobs.{PreparedView}
use Rattle.sack_history.specs.declared.fault.AnswerFault.{AnswerFault}
use Rattle.sack_history.specs.declared.fault.AnswerFault.TheVariants as answer_fault
use Rattle.sack_history.specs.declared.fault.Claim.{Claim}
use Rattle.sack_history.specs.declared.fault.Claim.TheVariants as claims
use Rattle.sack_history.specs.declared.fault.CommitFault.{CommitFault}
use Rattle.sack_history.specs.declared.fault.CommitFault.TheVariants as commit_fault
use Rattle.sack_history.specs.declared.fault.CreateFault.{CreateFault}
use Rattle.sack_history.specs.declared.fault.CreateFault.TheVariants as create_fault
use Rattle.sack_history.specs.declared.fault.SackFault.{SackFault}
use Rattle.sack_history.specs.declared.fault.SackFault.TheVariants as sack_fault
use Rattle.sack_history.specs.declared.holding.HeldClaim.{HeldClaim}
use Rattle.sack_history.specs.Holding.{same_ticket}

-- a fact of a fault of a disk, and another one of damage
abbrev pub MatchOnDisk : SackFault → (Fault → Type 0) → Type 0 → Type 0
MatchOnDisk (sack_fault.DiskFault f) P Q = P f
MatchOnDisk (sack_fault.Damaged d) P Q = Q
MatchOnDisk sack_fault.Unknown P Q = ⊤
MatchOnDisk (sack_fault.Spent s) P Q = ⊤
MatchOnDisk sack_fault.Memory P Q = ⊤

abbrev pub MatchCreateOnDisk : CreateFault → (Fault → Type 0) → Type 0 → Type 0
MatchCreateOnDisk (create_fault.DiskFault f) P Q = P f
MatchCreateOnDisk (create_fault.Damaged d) P Q = Q
MatchCreateOnDisk create_fault.Exists P Q = ⊤
MatchCreateOnDisk (create_fault.Spent s) P Q = ⊤
MatchCreateOnDisk create_fault.Memory P Q = ⊤

abbrev pub MatchAnswerOnDisk : AnswerFault → (Fault → Type 0) → Type 0 → Type 0
MatchAnswerOnDisk (answer_fault.DiskFault f) P Q = P f
MatchAnswerOnDisk (answer_fault.Damaged d) P Q = Q
MatchAnswerOnDisk answer_fault.Unknown P Q = ⊤
MatchAnswerOnDisk answer_fault.NoAggregation P Q = ⊤
MatchAnswerOnDisk answer_fault.NoGranularity P Q = ⊤
MatchAnswerOnDisk (answer_fault.Spent s) P Q = ⊤
MatchAnswerOnDisk answer_fault.Memory P Q = ⊤

abbrev pub MatchCommitOnDisk : CommitFault → (Fault → Type 0) → Type 0 → Type 0
MatchCommitOnDisk (commit_fault.DiskFault f) P Q = P f
MatchCommitOnDisk (commit_fault.Damaged d) P Q = Q
MatchCommitOnDisk (commit_fault.NotHolder given holder) P Q = ⊤
MatchCommitOnDisk (commit_fault.Differs back) P Q = ⊤
MatchCommitOnDisk (commit_fault.Memory back) P Q = ⊤

-- what a refused commit hands back is this prepared work
abbrev pub HandsBack : PreparedView → CommitFault → Type 0
HandsBack p (commit_fault.Differs back) = back ≡ p
HandsBack p (commit_fault.Memory back) = back ≡ p
HandsBack p (commit_fault.NotHolder given holder) = ⊤
HandsBack p (commit_fault.DiskFault f) = ⊤
HandsBack p (commit_fault.Damaged d) = ⊤

-- a job that was given has a ticket of this sack
abbrev pub HasTicketOf : ℕ → Claim → Type 0
HasTicketOf sack (claims.Job job) = job.ticket.sack ≡ sack
HasTicketOf sack (claims.Held ticket) = ⊤
HasTicketOf sack claims.Nothing = ⊤

-- how many entries a call of one entry adds, which mounted the books, or found them mounted
abbrev pub entries_of_call : Bool → ℕ
entries_of_call true = 2
entries_of_call false = 1

-- whether the claim that is held has this ticket
abbrev pub is_holder : Ticket → Option HeldClaim → Bool
is_holder ticket None = false
is_holder ticket (Some claim) = same_ticket ticket claim.ticket

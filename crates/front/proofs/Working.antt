-- What a sack answers a worker, as the front tells it.
use Rattle.std.proofs.Common.{◌≡◌, ◌≢◌, ◌<◌, ℕ, List, [], ◌∷◌, Some, zero, suc, length, refl, ap, subst, arith}
use Rattle.std.specs.List.{slice_get, slice_set}
use Rattle.std.specs.Result.{IfErr, IfOk}
use Rattle.std.specs.declared.result.Result.{Result}
use Rattle.std.specs.declared.result.Result.TheVariants.{Ok, Err}
use Rattle.gno_disk.specs.declared.disk.Disk.{Ghosts}
use Rattle.bound_series.specs.Jobs.{JobView, PreparedView}
use Rattle.sack_history.specs.declared.entry.Entry.{Entry}
use Rattle.sack_history.specs.declared.fault.Claim.{Claim}
use Rattle.sack_history.specs.declared.fault.Claim.TheVariants as claims
use Rattle.sack_history.specs.declared.fault.CommitFault.{CommitFault}
use Rattle.sack_history.specs.declared.fault.CommitFault.TheVariants as commit_fault
use Rattle.sack_history.specs.declared.fault.SackFault.{SackFault}
use Rattle.sack_history.specs.declared.fault.SackFault.TheVariants as sack_fault
use Rattle.sack_history.specs.Calls.{IsClaiming, IsCommitting}
use Rattle.sack_state.specs.Disks.{IsSackFault}
use Rattle.sack_state.specs.SackCalls.{HandsBack, HasTicketOf, MatchCommitOnDisk, MatchOnDisk}
use Rattle.sack_state.specs.SackView.{OfBoth, SackView}
use Rattle.front_api.specs.declared.bench.BenchFault.{BenchFault}
use Rattle.front_api.specs.declared.bench.Claimed.{Claimed}
use Rattle.front_api.specs.Bench.{IsOfSack, SaysClaim, SaysCommit, StandsForTicket}
use Rattle.front_api.specs.FaultWords.{IsKnown, bench_words, sack_words}
use Rattle.front_api.specs.Seen.{HasRisenIn, TellsNoDamage}
use Rattle.front.specs.declared.bench.Starved.{Starved}
use Rattle.front.specs.StoreFaults.{told_of_committing, told_of_sack}
use Rattle.front.specs.Working.{as_it_is, claimed_by}
use Rattle.front.proofs.Told.{fault_rose}

-- ---- claims

-- what a sack answers of a claim
abbrev pub claim_result : ℕ → Result Claim SackFault → Result (Claimed JobView) SackFault
claim_result sack (Ok claim) = Ok (claimed_by claim)
claim_result sack (Err fault) = Err (told_of_sack sack fault)

pub says_claim : (n sack : ℕ) (r : Result Claim SackFault) (before own : List Entry) → IfErr r (λ e. MatchOnDisk e (λ f. Unit {0}) ⊥) → IsClaiming sack r before own → SaysClaim as_it_is sack (claim_result n r) before own
says_claim n sack (Ok (claims.Job job)) before own sound is = is
says_claim n sack (Ok (claims.Held ticket)) before own sound is = is
says_claim n sack (Ok claims.Nothing) before own sound is = is
says_claim n sack (Err (sack_fault.Damaged d)) before own sound is = absurd sound
says_claim n sack (Err (sack_fault.DiskFault f)) before own sound is = is
says_claim n sack (Err sack_fault.Unknown) before own sound is = is
says_claim n sack (Err (sack_fault.Spent s)) before own sound is = is
says_claim n sack (Err sack_fault.Memory) before own sound is = is

pub claim_sound : (n : ℕ) (r : Result Claim SackFault) → IfErr r (λ e. MatchOnDisk e (λ f. Unit {0}) ⊥) → TellsNoDamage sack_words (claim_result n r)
claim_sound n (Ok claim) sound = tt
claim_sound n (Err (sack_fault.Damaged d)) sound = absurd sound
claim_sound n (Err (sack_fault.DiskFault f)) sound = refl
claim_sound n (Err sack_fault.Unknown) sound = refl
claim_sound n (Err (sack_fault.Spent s)) sound = refl
claim_sound n (Err sack_fault.Memory) sound = refl

pub claim_known : (n : ℕ) (r : Result Claim SackFault) → IfErr r (λ e. e ≢ sack_fault.Unknown) → IfErr (claim_result n r) IsKnown
claim_known n (Ok claim) known = tt
claim_known n (Err (sack_fault.Damaged d)) known = tt
claim_known n (Err (sack_fault.DiskFault f)) known = tt
claim_known n (Err sack_fault.Unknown) known = absurd (known refl)
claim_known n (Err (sack_fault.Spent s)) known = tt
claim_known n (Err sack_fault.Memory) known = tt

pub claim_of_sack : (n sack : ℕ) (r : Result Claim SackFault) → IfOk r (HasTicketOf sack) → IfOk (claim_result n r) (IsOfSack as_it_is sack)
claim_of_sack n sack (Ok (claims.Job job)) is = is
claim_of_sack n sack (Ok (claims.Held ticket)) is = tt
claim_of_sack n sack (Ok claims.Nothing) is = tt
claim_of_sack n sack (Err fault) is = tt

-- ---- commits

-- what a sack answers of a commit
abbrev pub commit_result : ℕ → Result ℕ CommitFault → Result ℕ (BenchFault Starved)
commit_result sack (Ok done) = Ok done
commit_result sack (Err fault) = Err (told_of_committing sack fault)

pub says_commit : (n : ℕ) (p : PreparedView) (r : Result ℕ CommitFault) (before own : List Entry) → IfErr r (HandsBack p) → IfErr r (λ e. MatchCommitOnDisk e (λ f. Unit {0}) ⊥)
    → IsCommitting p r before own → SaysCommit p (commit_result n r) before own
says_commit n p (Ok done) before own back sound is = is
says_commit n p (Err (commit_fault.NotHolder given holder)) before own back sound is = is
says_commit n p (Err (commit_fault.Differs q)) before own back sound is = subst (λ (x : PreparedView). IsCommitting p (Err (commit_fault.Differs x)) before own) back is
says_commit n p (Err (commit_fault.DiskFault f)) before own back sound is = is
says_commit n p (Err (commit_fault.Damaged d)) before own back sound is = absurd sound
says_commit n p (Err (commit_fault.Memory q)) before own back sound is = subst (λ (x : PreparedView). IsCommitting p (Err (commit_fault.Memory x)) before own) back is

pub commit_sound : (n : ℕ) (r : Result ℕ CommitFault) → IfErr r (λ e. MatchCommitOnDisk e (λ f. Unit {0}) ⊥) → TellsNoDamage bench_words (commit_result n r)
commit_sound n (Ok done) sound = tt
commit_sound n (Err (commit_fault.NotHolder given holder)) sound = refl
commit_sound n (Err (commit_fault.Differs q)) sound = refl
commit_sound n (Err (commit_fault.DiskFault f)) sound = refl
commit_sound n (Err (commit_fault.Damaged d)) sound = absurd sound
commit_sound n (Err (commit_fault.Memory q)) sound = refl

pub commit_ticket : (n : ℕ) (p : PreparedView) (r : Result ℕ CommitFault) → IfErr r (HandsBack p) → IfErr (commit_result n r) (StandsForTicket (λ starved. starved.ticket) p.job.ticket)
commit_ticket n p (Ok done) back = tt
commit_ticket n p (Err (commit_fault.NotHolder given holder)) back = tt
commit_ticket n p (Err (commit_fault.Differs q)) back = ap (λ (x : PreparedView). x.job.ticket) back
commit_ticket n p (Err (commit_fault.DiskFault f)) back = tt
commit_ticket n p (Err (commit_fault.Damaged d)) back = tt
commit_ticket n p (Err (commit_fault.Memory q)) back = ap (λ (x : PreparedView). x.job.ticket) back

module _ {D : Type 0} (g : Ghosts D) where
  pub claim_risen : (n : ℕ) (r : Result Claim SackFault) (v w : SackView D) (Q : Type 0) → IfErr r (λ e. MatchOnDisk e (λ f. OfBoth v w (λ s t. IsSackFault g s.disks t.disks f)) Q) → HasRisenIn sack_words (claim_result n r)
  claim_risen n (Ok claim) v w Q cause = tt
  claim_risen n (Err (sack_fault.Damaged d)) v w Q cause = tt
  claim_risen n (Err (sack_fault.DiskFault f)) v w Q cause = fault_rose g v w f cause
  claim_risen n (Err sack_fault.Unknown) v w Q cause = tt
  claim_risen n (Err (sack_fault.Spent s)) v w Q cause = tt
  claim_risen n (Err sack_fault.Memory) v w Q cause = tt

  pub commit_risen : (n : ℕ) (r : Result ℕ CommitFault) (v w : SackView D) (Q : Type 0) → IfErr r (λ e. MatchCommitOnDisk e (λ f. OfBoth v w (λ s t. IsSackFault g s.disks t.disks f)) Q) → HasRisenIn bench_words (commit_result n r)
  commit_risen n (Ok done) v w Q cause = tt
  commit_risen n (Err (commit_fault.NotHolder given holder)) v w Q cause = tt
  commit_risen n (Err (commit_fault.Differs q)) v w Q cause = tt
  commit_risen n (Err (commit_fault.DiskFault f)) v w Q cause = fault_rose g v w f cause
  commit_risen n (Err (commit_fault.Damaged d)) v w Q cause = tt
  commit_risen n (Err (commit_fault.Memory q)) v w Q cause = tt

-- ---- what a bench keeps of its claims

pub set_there : {X : Type 0} (l : List X) (i : ℕ) (x : X) → i < length l → slice_get (slice_set l i x) i ≡ Some x
set_there [] i x within = absurd (omega (arith, within))
set_there (y ∷ l) zero x within = refl
set_there (y ∷ l) (suc i) x within = set_there l i x (omega (arith, within))

pub set_elsewhere : {X : Type 0} (l : List X) (i j : ℕ) (x : X) → j ≢ i → slice_get (slice_set l i x) j ≡ slice_get l j
set_elsewhere [] i j x other = refl
set_elsewhere (y ∷ l) zero zero x other = absurd (other refl)
set_elsewhere (y ∷ l) zero (suc j) x other = refl
set_elsewhere (y ∷ l) (suc i) zero x other = refl
set_elsewhere (y ∷ l) (suc i) (suc j) x other = set_elsewhere l i j x (λ same. other (ap suc same))

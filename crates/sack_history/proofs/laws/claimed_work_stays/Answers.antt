use Rattle.std.proofs.Common.{subst}
use Rattle.std.specs.Option.{IfSome}
use Rattle.sack_history.specs.Entries.{kept}
use Rattle.sack_history.specs.declared.holding.HeldClaim.{HeldClaim}
use Rattle.sack_history.specs.Legal.{MayProcess}
use Rattle.sack_history.proofs.Held.{holds_well, job_stays}
use Rattle.sack_history.proofs.laws.claimed_work_stays.Goals as goal

pub returns : goal.returns
returns c = record {
  may = λ sack h claim legal held. subst (λ o. IfSome o (λ (x : HeldClaim). MayProcess (kept h) x.metric x.upto)) held (holds_well sack h legal).usable;
  job = λ sack h e claim job legal may held still is. job_stays sack h e claim job legal may held still is;
}

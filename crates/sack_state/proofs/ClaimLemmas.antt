-- What a claim gives, by the job that was made for it.
use Rattle.std.proofs.Common.{◌≡◌, ℕ, ◌+◌, ◌-◌, ◌^◌, ◌<◌, ◌≤◌, min, Option, Result, Ok, Err, refl, sym, ap, subst, arith}
use Rattle.gno_disk.specs.declared.disk.Disk.{Ghosts}
use Rattle.series_model.specs.declared.ticket.Ticket.{Ticket}
use Rattle.bound_series.specs.Jobs.{JobView}
use Rattle.incoming.specs.declared.mark.Mark.{Mark}
use Rattle.sack_history.specs.declared.fault.Claim.TheVariants as claims
use Rattle.sack_history.specs.declared.fault.SackFault.{SackFault}
use Rattle.sack_history.specs.declared.holding.HeldClaim.{HeldClaim}
use Rattle.sack_state.specs.declared.books.Books.{Books}
use Rattle.sack_state.specs.Claiming.{ClaimsFrom, FailsRead, HasFirst, IsJobFrom, ReadsJob, given, not_given, not_read, read}

few_given : (tickets number : ℕ) → number ≡ min (tickets + 1) (2 ^ 64 - 1) → number < 2 ^ 63 → tickets + 1 < 2 ^ 63
few_given tickets number is less = omega (arith, is, less)

next_given : (tickets number : ℕ) → number ≡ min (tickets + 1) (2 ^ 64 - 1) → number < 2 ^ 63 → number ≡ tickets + 1
next_given tickets number is less = omega (arith, is, less)

pub none_left : (tickets number : ℕ) → number ≡ min (tickets + 1) (2 ^ 64 - 1) → 2 ^ 63 ≤ number → 2 ^ 63 ≤ tickets + 1
none_left tickets number is most = omega (arith, is, most)

abbrev job_in : JobView → Result JobView SackFault → JobView
job_in other (Ok job) = job
job_in other (Err e) = other

abbrev fault_in : SackFault → Result JobView SackFault → SackFault
fault_in other (Ok job) = other
fault_in other (Err e) = e

module _ {D : Type 0} (g : Ghosts D) (held : Option HeldClaim) (sack tickets number : ℕ) (old new : Books D) (first : Mark) (has : HasFirst held old first) (number_is : number ≡ min (tickets + 1) (2 ^ 64 - 1)) (less : number < 2 ^ 63) where
  abbrev ticket_of : ℕ → Ticket
  ticket_of n = record { sack = sack; number = n }

  pub job_given : (job : JobView) → ReadsJob g first.metric (record { sack = sack; number = number }) old new (Ok job) → ClaimsFrom g held sack tickets old new (Ok (claims.Job job))
  job_given job (read other from only whole lasting is) = given first job has (few_given tickets number number_is less)
      (subst (λ n. IsJobFrom g old first.metric (ticket_of n) job) (next_given tickets number number_is less) (subst (IsJobFrom g old first.metric (ticket_of number)) (sym (ap (job_in job) is)) from)) only whole lasting refl
  job_given job (not_read e only fails is) = absurd cc

  pub job_not_given : (e : SackFault) → ReadsJob g first.metric (record { sack = sack; number = number }) old new (Err e) → ClaimsFrom g held sack tickets old new (Err e)
  job_not_given e (read other from only whole lasting is) = absurd cc
  job_not_given e (not_read fault only fails is) = not_given first e has (few_given tickets number number_is less) only (subst (FailsRead g old new) (sym (ap (fault_in e) is)) fails) refl

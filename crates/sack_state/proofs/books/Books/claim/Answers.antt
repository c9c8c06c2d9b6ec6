use Rattle.std.proofs.Common.{refl, sym, ◌∙◌}
use Rattle.sack_state.specs.Claiming.{holds, spent}
use Rattle.sack_state.proofs.ClaimLemmas.{job_given, job_not_given, none_left}
use Rattle.sack_state.proofs.FirstLemmas.{first_live}
use Rattle.sack_state.proofs.books.Books.claim.Goals as goal

pub job-requires-clause-live : goal.job-requires-clause-live
job-requires-clause-live g c = first_live c.args.self.now c.in-Some-longest_waiting.first (sym c.longest_waiting.ensures ∙ c.in-Some-longest_waiting.is)

pub returns-in-Some : goal.returns-in-Some
returns-in-Some g c = holds c.in-Some.claim c.in-Some.is refl refl

pub returns-then-number-ge-SPENT : goal.returns-then-number-ge-SPENT
returns-then-number-ge-SPENT g c =
    spent c.in-Some-longest_waiting.first (record { free = c.in_default.is; is = sym c.longest_waiting.ensures ∙ c.in-Some-longest_waiting.is })
    (none_left c.args.tickets c.saturating_add-number.result c.saturating_add-number.ensures c.if-number-ge-SPENT.true) refl refl

pub returns-in-Ok : goal.returns-in-Ok
returns-in-Ok g c =
    job_given g.D.Disk c.args.held c.args.sack c.args.tickets c.saturating_add-number.result c.args.self.now c.job.new.self c.in-Some-longest_waiting.first
    (record { free = c.in_default.is; is = sym c.longest_waiting.ensures ∙ c.in-Some-longest_waiting.is }) c.saturating_add-number.ensures c.if-number-ge-SPENT.false c.in-Ok.job c.in-Ok.ensures

pub returns-in-Err : goal.returns-in-Err
returns-in-Err g c =
    job_not_given g.D.Disk c.args.held c.args.sack c.args.tickets c.saturating_add-number.result c.args.self.now c.job.new.self c.in-Some-longest_waiting.first
    (record { free = c.in_default.is; is = sym c.longest_waiting.ensures ∙ c.in-Some-longest_waiting.is }) c.saturating_add-number.ensures c.if-number-ge-SPENT.false c.in-Err.fault c.in-Err.ensures

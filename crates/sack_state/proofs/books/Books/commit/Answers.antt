use Rattle.std.proofs.Common.{Bool, true, false, Ok, Err, sym, ap, subst, ◌∙◌}
use Rattle.series_model.specs.declared.ticket.Ticket.{Ticket}
use Rattle.bound_series.specs.Jobs.{JobView}
use Rattle.split_store.specs.Damage.{HasOddSplits}
use Rattle.sack_state.specs.Committing.{IsWork, ReadsWork, done, undone}
use Rattle.sack_state.specs.SackCalls.{is_holder}
use Rattle.sack_state.proofs.CommitBooks.{commit_differs, commit_unread, holds_ticket, work_read}
use Rattle.sack_state.proofs.TurnLemmas.{turn_not_written, turn_written}
use Rattle.sack_state.proofs.books.Books.commit.Goals as goal

pub returns-in-Ok-false : goal.returns-in-Ok-false
returns-in-Ok-false g c =
    let d = g.met.D.Disk in
    let old = c.args.self.now in
    let mid = c.is_work.new.self in
    let p = c.args.prepared in
    let job = c.job-job.ensures.value in
    let claim = c.in-Some.claim in
    let holds = holds_ticket c.args.held p claim c.in-Some.is (ap (λ (t : Ticket). is_holder t c.args.held) (sym (c.ticket-given.ensures ∙ ap (λ (j : JobView). j.ticket) job)) ∙ sym c.is_holder.ensures ∙ c.if-not-is_holder.false) in
    let told = subst (λ (b : Bool). ReadsWork g.D.Disk claim c.job-job.result.now old mid (Ok b)) c.in-Ok-false.field-0-test c.in-Ok-false.ensures in
    commit_differs g.D.Disk c.args.held p claim holds old mid (subst (λ (j : JobView). ReadsWork g.D.Disk claim j old mid (Ok false)) job told)

pub returns-in-Err : goal.returns-in-Err
returns-in-Err g c =
    let d = g.met.D.Disk in
    let old = c.args.self.now in
    let mid = c.is_work.new.self in
    let p = c.args.prepared in
    let job = c.job-job.ensures.value in
    let claim = c.in-Some.claim in
    let holds = holds_ticket c.args.held p claim c.in-Some.is (ap (λ (t : Ticket). is_holder t c.args.held) (sym (c.ticket-given.ensures ∙ ap (λ (j : JobView). j.ticket) job)) ∙ sym c.is_holder.ensures ∙ c.if-not-is_holder.false) in
    commit_unread g.D.Disk c.args.held p claim holds old mid c.in-Err.fault c.committing_fault.result c.committing_fault.ensures (subst (λ (j : JobView). ReadsWork g.D.Disk claim j old mid (Err c.in-Err.fault)) job c.in-Err.ensures)

pub returns-in-Ok : goal.returns-in-Ok
returns-in-Ok g c =
    let d = g.met.D.Disk in
    let old = c.args.self.now in
    let mid = c.is_work.new.self in
    let p = c.args.prepared in
    let job = c.job-job.ensures.value in
    let claim = c.in-Some.claim in
    let holds = holds_ticket c.args.held p claim c.in-Some.is (ap (λ (t : Ticket). is_holder t c.args.held) (sym (c.ticket-given.ensures ∙ ap (λ (j : JobView). j.ticket) job)) ∙ sym c.is_holder.ensures ∙ c.if-not-is_holder.false) in
    let told = subst (λ (b : Bool). ReadsWork g.D.Disk claim c.job-job.result.now old mid (Ok b)) c.in-Ok-true.field-0-test c.in-Ok-true.ensures in
    let read = work_read g.D.Disk c.args.held p claim holds old mid (subst (λ (j : JobView). ReadsWork g.D.Disk claim j old mid (Ok true)) job told) in
    let e = c.in-Ok.ensures in
    done claim holds (turn_written g.D.Disk d.came_goes_on d.came_then d.came_later old mid read.only (IsWork g.D.Disk old claim) p (read.ready c.job-job.ensures.prepared) read.whole read.lasting c.commit.new.self
    (record { place = e.same.0; any_moment = e.any_moment; left = e.left; came_first = e.came.0; came_second = e.came.1; metrics = mid.shelf.metrics; blocks = e.writes })
    (record { changed = e.changed; lasting = e.durable }) e.whole) (ap (λ n. Ok n) (c.upto.ensures ∙ ap (λ (j : JobView). j.upto) c.job.ensures.value))

pub returns-in-Err-commit : goal.returns-in-Err-commit
returns-in-Err-commit g c =
    let d = g.met.D.Disk in
    let old = c.args.self.now in
    let mid = c.is_work.new.self in
    let p = c.args.prepared in
    let job = c.job-job.ensures.value in
    let claim = c.in-Some.claim in
    let holds = holds_ticket c.args.held p claim c.in-Some.is (ap (λ (t : Ticket). is_holder t c.args.held) (sym (c.ticket-given.ensures ∙ ap (λ (j : JobView). j.ticket) job)) ∙ sym c.is_holder.ensures ∙ c.if-not-is_holder.false) in
    let told = subst (λ (b : Bool). ReadsWork g.D.Disk claim c.job-job.result.now old mid (Ok b)) c.in-Ok-true.field-0-test c.in-Ok-true.ensures in
    let read = work_read g.D.Disk c.args.held p claim holds old mid (subst (λ (j : JobView). ReadsWork g.D.Disk claim j old mid (Ok true)) job told) in
    let e = c.in-Err-commit.ensures in
    undone claim c.fault_of_shelf-fault.result holds (turn_not_written g.D.Disk d.came_goes_on d.came_then d.came_later old mid read.only (IsWork g.D.Disk old claim) p (read.ready c.job-job.ensures.prepared) read.whole read.lasting c.commit.new.self
    (record { place = e.same.0; any_moment = e.any_moment; left = e.left; came_first = e.came.0; came_second = e.came.1; metrics = mid.shelf.metrics; blocks = e.writes })
    (HasOddSplits mid.shelf.metrics p.job.metric) c.in-Err-commit.fault c.fault_of_shelf-fault.result c.faults-before.result c.faults.result e.kept.0 e.kept.1 c.faults-before.ensures c.faults.ensures e.cause e.seen c.fault_of_shelf-fault.ensures)
    (ap (λ x. Err x) c.committing_fault-in-Err-commit.ensures)

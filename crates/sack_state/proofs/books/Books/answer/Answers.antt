use Rattle.std.proofs.Common.{Err, Option, refl, sym, ap, ◌∙◌}
use Rattle.shelf_records.specs.Shelved.{Shelved}
use Rattle.shelf_query.specs.Reading.{HasOddSplitOf}
use Rattle.sack_history.specs.declared.fault.AnswerFault.TheVariants as answer_fault
use Rattle.sack_history.specs.Answering.{query_refusal}
use Rattle.sack_state.specs.Answering.{answered, policy_in_record, refused, unanswered}
use Rattle.sack_state.proofs.AnswerBooks.{shelf_read, shelf_unread}
use Rattle.sack_state.proofs.books.Books.answer.Goals as goal

pub returns-in_default : goal.returns-in_default
returns-in_default g c = refused answer_fault.Unknown (ap (λ (o : Option Shelved). query_refusal c.args.query.now (policy_in_record o)) c.in_default.ensures) refl refl

pub returns-in-Some-query_refusal : goal.returns-in-Some-query_refusal
returns-in-Some-query_refusal g c =
    refused c.in-Some-query_refusal.refusal (ap (query_refusal c.args.query.now) c.in-Some.ensures ∙ sym c.query_refusal.ensures ∙ c.in-Some-query_refusal.is) refl refl

pub returns-in-Ok : goal.returns-in-Ok
returns-in-Ok g c =
    let d = g.met.D.Disk in
    let e = c.in-Ok.ensures in
    answered c.in-Some-kind.kind c.in-Ok.rows (ap (query_refusal c.args.query.now) c.in-Some.ensures ∙ sym c.query_refusal.ensures ∙ c.in_default-query_refusal.is) c.in-Some-kind.is e.rows
    (shelf_read g.D.Disk d.only_now d.came_none d.came_later c.args.self.now c.answer_of.new.shelf e.seen) (record { incoming = c.requires.incoming; shelf = e.whole }) (λ was. record { incoming = was.incoming; shelf = e.left }) refl

pub returns-in-Err : goal.returns-in-Err
returns-in-Err g c =
    let d = g.met.D.Disk in
    let e = c.in-Err.ensures in
    unanswered c.fault_of_shelf.result (ap (query_refusal c.args.query.now) c.in-Some.ensures ∙ sym c.query_refusal.ensures ∙ c.in_default-query_refusal.is)
    (shelf_read g.D.Disk d.only_now d.came_none d.came_later c.args.self.now c.answer_of.new.shelf e.seen)
    (shelf_unread g.D.Disk d.only_now d.came_none d.came_later c.args.self.now c.answer_of.new.shelf (HasOddSplitOf c.args.self.now.shelf.metrics c.args.metric c.in-Some-kind.kind) c.in-Err.fault c.fault_of_shelf.result
    c.faults-before.result c.faults.result c.requires c.faults-before.ensures c.faults.ensures e.left e.cause c.fault_of_shelf.ensures) (ap (λ x. Err x) c.answering_fault.ensures)

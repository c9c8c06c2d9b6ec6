use Rattle.std.proofs.Common.{Ok, Err, None, Result, refl, subst}
use Rattle.std.specs.Prelude.{length}
use Rattle.sack_state.specs.SackView.{marks_waiting}
use Rattle.sack_history.specs.declared.fault.SackFault.{SackFault}
use Rattle.sack_state.specs.Committing.{TakesTurns, drained}
use Rattle.sack_state.proofs.books.Books.drain.Goals as goal

pub returns-in-Ok : goal.returns-in-Ok
returns-in-Ok g c =
    let t = c.take_turns-turned in
    drained (Ok tt) (subst (λ (r : Result (Unit {0}) SackFault). TakesTurns g.D.Disk None (length (marks_waiting c.args.self.now)) c.args.held c.args.self.now t.new.self r t.result.turns t.result.held) c.in-Ok.is
    (subst (λ n. TakesTurns g.D.Disk None n c.args.held c.args.self.now t.new.self t.result.result t.result.turns t.result.held) c.pending-most.ensures t.ensures)) refl

pub returns-in-Err : goal.returns-in-Err
returns-in-Err g c =
    let t = c.take_turns-turned in
    drained (Err c.in-Err.fault) (subst (λ (r : Result (Unit {0}) SackFault). TakesTurns g.D.Disk None (length (marks_waiting c.args.self.now)) c.args.held c.args.self.now t.new.self r t.result.turns t.result.held) c.in-Err.is
    (subst (λ n. TakesTurns g.D.Disk None n c.args.held c.args.self.now t.new.self t.result.result t.result.turns t.result.held) c.pending-most.ensures t.ensures)) refl

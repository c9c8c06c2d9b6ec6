use Rattle.std.proofs.Common.{◌≡◌, Ok, Err, None, Some, Option, Result, refl, sym, ap, subst, ◌∙◌}
use Rattle.std.specs.Option.{option_map, unwrap_or}
use Rattle.std.specs.Prelude.{length}
use Rattle.sack_state.specs.Waiting.{numbers_waiting}
use Rattle.shelf_records.specs.Shelved.{Shelved, metric_of}
use Rattle.sack_history.specs.declared.fault.SackFault.{SackFault}
use Rattle.sack_state.specs.Committing.{TakesTurns, done_in_record, turned}
use Rattle.sack_state.proofs.books.Books.refresh.Goals as goal

recorded : (o : Option Shelved) → unwrap_or (option_map (λ (m : Shelved). m.done) o) 0 ≡ done_in_record o
recorded None = refl
recorded (Some m) = refl

pub returns-in-Ok : goal.returns-in-Ok
returns-in-Ok g c =
    let t = c.take_turns-turned in
    turned (Ok tt) (sym c.knows.ensures ∙ c.if-not-knows.false)
    (subst (λ (r : Result (Unit {0}) SackFault). TakesTurns g.D.Disk (Some c.args.metric) (length (numbers_waiting c.args.self.now c.args.metric)) c.args.held c.args.self.now t.new.self r t.result.turns t.result.held) c.in-Ok.is
    (subst (λ n. TakesTurns g.D.Disk (Some c.args.metric) n c.args.held c.args.self.now t.new.self t.result.result t.result.turns t.result.held) c.waiting_of-most.ensures t.ensures))
    (ap (λ n. Ok n) (c.unwrap_or.ensures ∙ ap (λ o. unwrap_or o 0) c.done_of.ensures ∙ recorded (metric_of c.args.metric t.new.self.shelf.metrics)))

pub returns-in-Err : goal.returns-in-Err
returns-in-Err g c =
    let t = c.take_turns-turned in
    turned (Err c.in-Err.fault) (sym c.knows.ensures ∙ c.if-not-knows.false)
    (subst (λ (r : Result (Unit {0}) SackFault). TakesTurns g.D.Disk (Some c.args.metric) (length (numbers_waiting c.args.self.now c.args.metric)) c.args.held c.args.self.now t.new.self r t.result.turns t.result.held) c.in-Err.is
    (subst (λ n. TakesTurns g.D.Disk (Some c.args.metric) n c.args.held c.args.self.now t.new.self t.result.result t.result.turns t.result.held) c.waiting_of-most.ensures t.ensures)) refl

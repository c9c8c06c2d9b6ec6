use Rattle.std.proofs.Common.{true, refl, sym, ◌∙◌}
use Rattle.sack_history.specs.declared.fault.SackFault.TheVariants as sack_fault
use Rattle.sack_history.specs.Failing.{sack_failure}
use Rattle.sack_history.specs.Scratch.{without_live}
use Rattle.sack_state.specs.Changing.{changed}
use Rattle.sack_state.proofs.ChangeLemmas.{unchanged}
use Rattle.sack_state.proofs.books.Books.drop_metric.Goals as goal

pub drop_metric-requires-clause-live : goal.drop_metric-requires-clause-live
drop_metric-requires-clause-live g c = sym c.knows.ensures ∙ c.if-not-knows.false

pub returns-in-Ok-clause-outcome : goal.returns-in-Ok-clause-outcome
returns-in-Ok-clause-outcome g c =
    let e = c.in-Ok.ensures in
    changed tt (sym c.knows.ensures ∙ c.if-not-knows.false)
    (record { moments = e.any_moment; left = e.left; came_first = e.came.0; came_second = e.came.1; blocks = e.same.2 })
    (record { keeps = e.changed; whole = e.whole; lasting = e.durable }) refl

pub returns-in-Err-clause-outcome : goal.returns-in-Err-clause-outcome
returns-in-Err-clause-outcome g c =
    let e = c.in-Err.ensures in
    unchanged g.D.Disk c.args.metric true sack_fault.Unknown sack_failure (without_live c.args.metric) c.args.self.now c.drop_metric.new.self (sym c.knows.ensures ∙ c.if-not-knows.false)
    (record { moments = e.any_moment; left = e.left; came_first = e.came.0; came_second = e.came.1; blocks = e.same.2 })
    c.in-Err.fault c.dropping_fault_of.result c.faults-before.result c.faults.result c.faults-before.ensures c.faults.ensures e.kept.0 e.cause c.dropping_fault_of.ensures

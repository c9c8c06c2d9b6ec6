use Rattle.std.proofs.Common.{ℕ, ◌-◌, [], false, Ok, refl, sym, subst, ◌∙◌}
use Rattle.sack_history.specs.declared.fault.CreateFault.TheVariants as create_fault
use Rattle.sack_history.specs.Failing.{create_failure}
use Rattle.sack_history.specs.Scratch.{with_live}
use Rattle.split_update.specs.Live.{live_from_scratch}
use Rattle.sack_state.specs.Changing.{ChangesMetrics, WritesMetrics, changed}
use Rattle.sack_state.proofs.ChangeLemmas.{unchanged}
use Rattle.sack_state.proofs.KnowLemmas.{none_known}
use Rattle.sack_state.proofs.books.Books.create_metric.Goals as goal

pub register-requires-clause-absent : goal.register-requires-clause-absent
register-requires-clause-absent g c = none_known _ (sym c.knows.ensures ∙ c.if-knows.false)

pub returns-in-Ok-clause-outcome : goal.returns-in-Ok-clause-outcome
returns-in-Ok-clause-outcome g c =
    let e = c.in-Ok.ensures in
    subst (λ (n : ℕ). ChangesMetrics g.D.Disk c.args.metric false create_fault.Exists create_failure (with_live (live_from_scratch c.args.metric c.args.policy.now (n - 1) [])) c.args.self.now (record { incoming = c.args.self.now.incoming; shelf = c.register.new.self }) (Ok tt))
    c.next-next.ensures.value
    (changed tt (sym c.knows.ensures ∙ c.if-knows.false)
    (record { moments = e.any_moment; left = e.left; came_first = e.came.0; came_second = e.came.1; blocks = e.same.2 })
    (record { keeps = e.changed; whole = e.whole; lasting = e.durable }) refl)

pub returns-in-Err-clause-outcome : goal.returns-in-Err-clause-outcome
returns-in-Err-clause-outcome g c =
    let e = c.in-Err.ensures in
    let change = λ (n : ℕ). with_live (live_from_scratch c.args.metric c.args.policy.now (n - 1) []) in
    unchanged g.D.Disk c.args.metric false create_fault.Exists create_failure (change c.args.self.now.incoming.next) c.args.self.now c.register.new.self (sym c.knows.ensures ∙ c.if-knows.false)
    (subst (λ (n : ℕ). WritesMetrics g.D.Disk (with_live (live_from_scratch c.args.metric c.args.policy.now (n - 1) [])) c.args.self.now.shelf c.register.new.self) c.next-next.ensures.value
    (record { moments = e.any_moment; left = e.left; came_first = e.came.0; came_second = e.came.1; blocks = e.same.2 }))
    c.in-Err.fault c.creating_fault_of.result c.faults-before.result c.faults.result c.faults-before.ensures c.faults.ensures e.kept.0 e.cause c.creating_fault_of.ensures

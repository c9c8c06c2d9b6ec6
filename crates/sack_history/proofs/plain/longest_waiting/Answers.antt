use Rattle.std.proofs.Common.{sym, ◌∙◌}
use Rattle.sack_history.proofs.Walking.{some_found}
use Rattle.sack_history.proofs.plain.longest_waiting.Goals as goal

pub returns-then-is_some : goal.returns-then-is_some
returns-then-is_some c =
    some_found c.args.counts.now c.loop-c.c-index c.c-item.result c.waiting_metric-found.result c.loop-c-test.true c.c-item.is c.loop-c.invariant
    c.waiting_metric-found.ensures (sym c.is_some.ensures ∙ c.if-is_some.true)

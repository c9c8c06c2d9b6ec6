use Rattle.std.proofs.Common.{◌≡◌, ◌++◌, ltb, take}
use Rattle.std.specs.List.{filter}
use Rattle.series_model.specs.declared.metric.MetricId.{MetricId}
use Rattle.sack_history.proofs.plain.push_above.Given as goal

abbrev pub invariant-loop-id : goal.invariant-loop-id
invariant-loop-id l = l.after.items ≡ l.fn.after.items ++ filter (λ (id : MetricId). ltb l.metric.0 id.0) (take l.id-index l.ids)

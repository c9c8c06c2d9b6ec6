use Rattle.std.proofs.Common.{◌≡◌, eqb, not, take}
use Rattle.std.specs.List.{filter}
use Rattle.series_model.specs.declared.metric.MetricId.{MetricId}
use Rattle.sack_history.proofs.plain.without_id.Given as goal

abbrev pub invariant-loop-id : goal.invariant-loop-id
invariant-loop-id l = l.after.items ≡ filter (λ (id : MetricId). not (eqb id.0 l.metric.0)) (take l.id-index l.ids)

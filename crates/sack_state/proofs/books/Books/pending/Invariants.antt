use Rattle.std.proofs.Common.{◌≡◌, ◌-◌, ◌^◌, min, take, length}
use Rattle.std.specs.List.{sum_by}
use Rattle.series_model.specs.declared.metric.MetricId.{MetricId}
use Rattle.sack_state.specs.Waiting.{numbers_waiting}
use Rattle.sack_state.proofs.books.Books.pending.Given as goal

-- the posts of the metrics so far
abbrev pub invariant-loop-metric : goal.invariant-loop-metric
invariant-loop-metric g l = l.pending ≡ min (sum_by (λ (id : MetricId). length (numbers_waiting l.self id)) (take l.metric-index l.ids)) (2 ^ 64 - 1)

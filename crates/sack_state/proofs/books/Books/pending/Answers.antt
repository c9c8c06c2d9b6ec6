use Rattle.std.proofs.Common.{ℕ, ◌-◌, ◌<◌, ◌≤◌, ◌^◌, min, List, length, subst, ap, ◌∙◌}
use Rattle.std.specs.List.{sum_by}
use Rattle.std.proofs.lemmas.List.{take_all}
use Rattle.series_model.specs.declared.metric.MetricId.{MetricId}
use Rattle.incoming.specs.Posts.{last_number}
use Rattle.sack_state.specs.Waiting.{numbers_waiting}
use Rattle.sack_state.proofs.WaitingLemmas.{pending_all}
use Rattle.sack_state.proofs.books.Books.pending.Goals as goal

pub returns : goal.returns
returns g c =
    let ids = c.metrics-ids.result.now in
    let b = c.args.self.now in
    let next = c.next-next.ensures in
    c.loop-metric.invariant
    ∙ ap (λ (l : List MetricId). min (sum_by (λ (id : MetricId). length (numbers_waiting b id)) l) (2 ^ 64 - 1)) (take_all c.loop-metric.metric-index ids c.loop-metric-test.false)
    ∙ pending_all b ids c.metrics-ids.ensures.value c.metrics-ids.ensures.rising next.rise.0 (subst (λ (n : ℕ). last_number b.incoming.marks < n) next.value next.rise.1) (subst (λ (n : ℕ). n ≤ 2 ^ 63) next.value next.range.1)

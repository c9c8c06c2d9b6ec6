use Rattle.std.proofs.Common.{None, List, ap, ◌∙◌}
use Rattle.std.specs.List.{fold}
use Rattle.std.proofs.lemmas.List.{take_all}
use Rattle.series_model.specs.declared.metric.MetricId.{MetricId}
use Rattle.sack_state.proofs.FirstLemmas.{least_all, least_with}
use Rattle.sack_state.proofs.books.Books.longest_waiting.Goals as goal

pub returns : goal.returns
returns g c =
    let ids = c.metrics-ids.result.now in
    let b = c.args.self.now in
    c.loop-metric.invariant
    ∙ ap (λ (l : List MetricId). fold (least_with b) None l) (take_all c.loop-metric.metric-index ids c.loop-metric-test.false)
    ∙ least_all b c.next-next.ensures.rise.0 ids c.metrics-ids.ensures.value c.metrics-ids.ensures.rising

use Rattle.std.proofs.Common.{◌++◌, ap, ◌∙◌, arith}
use Rattle.std.specs.Borrow.{Bor}
use Rattle.front_api.specs.declared.command.MetricDoc.{MetricDoc}
use Rattle.rest_api.specs.Shown.{list_text, metric_shown}
use Rattle.rest_api.proofs.ListLemmas.{item_goes_on, items_end}
use Rattle.rest_api.proofs.NameOrder.{borrowed_shown}
use Rattle.rest_api.proofs.members.push_borrowed.Goals as goal

pub loop-place-preserved : goal.loop-place-preserved
loop-place-preserved c =
    item_goes_on (λ (doc : Bor MetricDoc). metric_shown doc.now) c.args.docs.now c.args.text.now.items c.loop-place.place c.index-docs-place.result _ _ (omega arith) c.index-docs-place.is c.loop-place.invariant c.in_ok-push_metric.ensures

pub returns : goal.returns
returns c =
    items_end (λ (doc : Bor MetricDoc). metric_shown doc.now) c.args.docs.now c.args.text.now.items c.loop-place.place _ _ (omega arith) c.loop-place.invariant c.in_ok-end_list.ensures.ok
    ∙ ap (λ documents. c.args.text.now.items ++ list_text documents) (borrowed_shown c.args.docs.now)

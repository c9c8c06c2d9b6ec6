use Rattle.std.proofs.Common.{arith}
use Rattle.rest_api.proofs.ListLemmas.{item_goes_on, items_end}
use Rattle.rest_api.specs.Shown.{metric_shown}
use Rattle.rest_api.proofs.shown.push_metrics.Goals as goal

pub loop-place-preserved : goal.loop-place-preserved
loop-place-preserved c =
    item_goes_on metric_shown c.args.docs.now c.args.text.now.items c.loop-place.place c.index-docs-place.result _ _ (omega arith) c.index-docs-place.is c.loop-place.invariant c.in_ok-push_metric.ensures

pub returns : goal.returns
returns c =
    items_end metric_shown c.args.docs.now c.args.text.now.items c.loop-place.place _ _ (omega arith) c.loop-place.invariant c.in_ok-end_list.ensures.ok

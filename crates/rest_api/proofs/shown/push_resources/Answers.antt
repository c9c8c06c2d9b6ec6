use Rattle.std.proofs.Common.{arith}
use Rattle.rest_api.proofs.ListLemmas.{item_goes_on, items_end}
use Rattle.rest_api.specs.Shown.{resource_shown}
use Rattle.rest_api.proofs.shown.push_resources.Goals as goal

pub loop-place-preserved : goal.loop-place-preserved
loop-place-preserved c =
    item_goes_on resource_shown c.args.docs.now c.args.text.now.items c.loop-place.place c.index-docs-place.result _ _ (omega arith) c.index-docs-place.is c.loop-place.invariant c.in_ok-push_resource.ensures

pub returns : goal.returns
returns c =
    items_end resource_shown c.args.docs.now c.args.text.now.items c.loop-place.place _ _ (omega arith) c.loop-place.invariant c.in_ok-end_list.ensures.ok

use Rattle.std.proofs.Common.{None, sym, ◌∙◌}
use Rattle.rest_api.proofs.DoingLemmas.{tells_as}
use Rattle.rest_api.proofs.HandlingLemmas.{found_asks, found_refuses}
use Rattle.rest_api.proofs.handling.on_found.Goals as goal

pub returns-then-may_ask-clause-does : goal.returns-then-may_ask-clause-does
returns-then-may_ask-clause-does g c =
    found_asks g.F.Histories.stands c.args.route c.args.method c.args.query.now c.args.body.now c.args.front.now c.on_route.new.front c.on_route.result
    (sym c.may_ask.ensures ∙ c.if-may_ask.true) c.on_route.ensures.does

pub returns-clause-does : goal.returns-clause-does
returns-clause-does g c =
    found_refuses g.F.Histories.stands c.args.route c.args.method c.args.query.now c.args.body.now c.args.front.now c.of_error.result
    (sym c.may_ask.ensures ∙ c.if-may_ask.false) (tells_as _ _ None _ c.of-error.ensures c.of_error.ensures.told)

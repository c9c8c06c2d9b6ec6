use Rattle.std.proofs.Common.{Some}
use Rattle.front_api.specs.Seen.{LeadsTo}
use Rattle.rest_api.specs.Commands.{OnResource}
use Rattle.rest_api.proofs.DoingLemmas.{either}
use Rattle.rest_routes.specs.declared.method.Method.{Method}
use Rattle.rest_api.proofs.commands.resource.Goals as goal

pub returns-in-Delete-clause-does : goal.returns-in-Delete-clause-does
returns-in-Delete-clause-does g c = rw (c.in-Some.is, c.in-Delete.is) c.ask.ensures.asks

pub returns-in-Get : goal.returns-in-Get
returns-in-Get g c = record {
  does = rw c.in-Some.is (either _ _ _ (λ (m : Method). LeadsTo g.F.Histories.stands c.args.front.now c.ask-in-Get.new.front (OnResource (Some c.in-Some.id) m c.ask-in-Get.result)) c.in-Get.is c.ask-in-Get.ensures.asks c.ask-in-Get.ensures.asks);
  same = c.ask-in-Get.ensures.same;
}

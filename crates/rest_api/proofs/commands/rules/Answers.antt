use Rattle.std.proofs.Common.{None}
use Rattle.front_api.specs.Seen.{LeadsTo}
use Rattle.rest_api.specs.Commands.{OnRules}
use Rattle.rest_api.proofs.DoingLemmas.{either, reads_document, refuses_document, tells_as}
use Rattle.rest_routes.specs.declared.method.Method.{Method}
use Rattle.rest_api.proofs.commands.rules.Goals as goal

pub returns-in-Ok-clause-does : goal.returns-in-Ok-clause-does
returns-in-Ok-clause-does g c =
    rw c.in-Post.is (reads_document g.F.Histories.stands _ _ _ _ _ _ c.in-Ok.rule c.in-Ok.ensures.ok c.ask.ensures.asks)

pub returns-in-Err-clause-does : goal.returns-in-Err-clause-does
returns-in-Err-clause-does g c =
    rw c.in-Post.is (refuses_document g.F.Histories.stands _ _ None _ _ c.in-Err.fault c.in-Err.ensures.err (tells_as _ _ None _ c.into.ensures c.of_error.ensures.told))

pub returns-in-Get : goal.returns-in-Get
returns-in-Get g c = record {
  does = either _ _ _ (λ (m : Method). LeadsTo g.F.Histories.stands c.args.front.now c.ask-in-Get.new.front (OnRules m c.args.body.now c.ask-in-Get.result)) c.in-Get.is c.ask-in-Get.ensures.asks c.ask-in-Get.ensures.asks;
  same = c.ask-in-Get.ensures.same;
}

use Rattle.std.proofs.Common.{None}
use Rattle.front_api.specs.Seen.{LeadsTo}
use Rattle.rest_api.specs.Commands.{OnMetrics}
use Rattle.rest_api.proofs.DoingLemmas.{either, reads_document, refuses_document, tells_as}
use Rattle.rest_api.proofs.MetricLemmas.{metric_has_name}
use Rattle.rest_routes.specs.declared.method.Method.{Method}
use Rattle.rest_api.proofs.commands.metrics.Goals as goal

pub add_metric-requires : goal.add_metric-requires
add_metric-requires g c = metric_has_name c.args.body.now c.in-Ok.metric c.in-Ok.ensures.ok

pub returns-in-Ok-clause-does : goal.returns-in-Ok-clause-does
returns-in-Ok-clause-does g c =
    rw c.in-Post.is (reads_document g.F.Histories.stands _ _ _ _ _ _ c.in-Ok.metric c.in-Ok.ensures.ok c.add_metric.ensures.asks)

pub returns-in-Err-clause-does : goal.returns-in-Err-clause-does
returns-in-Err-clause-does g c =
    rw c.in-Post.is (refuses_document g.F.Histories.stands _ _ None _ _ c.in-Err.fault c.in-Err.ensures.err (tells_as _ _ None _ c.into.ensures c.of_error.ensures.told))

pub returns-in-Get : goal.returns-in-Get
returns-in-Get g c = record {
  does = either _ _ _ (λ (m : Method). LeadsTo g.F.Histories.stands c.args.front.now c.ask.new.front (OnMetrics m c.args.body.now c.ask.result)) c.in-Get.is c.ask.ensures.asks c.ask.ensures.asks;
  same = c.ask.ensures.same;
}

use Rattle.std.proofs.Common.{List, None, Ok, Err, subst, inl, ◌∙◌}
use Rattle.front_api.specs.declared.command.MetricDoc.{MetricDoc}
use Rattle.rest_api.specs.Members.{AreItsMetrics, TellsItsMetrics}
use Rattle.rest_api.proofs.DoingLemmas.{tells_as}
use Rattle.rest_api.proofs.MembersLemmas.{lists_its_metrics}
use Rattle.rest_api.proofs.members.list_its_metrics.Goals as goal

pub returns-in-Ok-text_of_its-clause-does : goal.returns-in-Ok-text_of_its-clause-does
returns-in-Ok-text_of_its-clause-does g c =
    let its = c.in-Ok-text_of_its.ensures in
    lists_its_metrics g.F.Histories.stands c.args.front.now c.control.new.self c.args.resource (Ok c.in-Ok.reply) c.with_body.result c.in-Ok.ensures.controls
    (TellsItsMetrics.told c.in-Ok.reply its.0 c.with_body.result (subst (λ (docs : List MetricDoc). AreItsMetrics c.args.resource docs its.0) c.metrics_in.ensures its.1)
    (inl (record { status = c.with_body.ensures.status; allow = c.with_body.ensures.allow; body = c.with_body.ensures.body ∙ its.2 })))

pub returns-in-Ok-clause-does : goal.returns-in-Ok-clause-does
returns-in-Ok-clause-does g c =
    lists_its_metrics g.F.Histories.stands c.args.front.now c.control.new.self c.args.resource (Ok c.in-Ok.reply) c.no_memory.result c.in-Ok.ensures.controls
    (TellsItsMetrics.starved c.in-Ok.reply c.no_memory.result c.no_memory.ensures)

pub returns-clause-does : goal.returns-clause-does
returns-clause-does g c =
    lists_its_metrics g.F.Histories.stands c.args.front.now c.control.new.self c.args.resource (Err c.in-Err.fault) c.of_error.result c.in-Err.ensures.controls
    (TellsItsMetrics.refused c.in-Err.fault c.of_error.result (tells_as _ _ None _ c.of_command-error.ensures c.of_error.ensures.told))

use Rattle.std.proofs.Common.{None, sym, ◌∙◌}
use Rattle.rest_api.proofs.DoingLemmas.{tells_as}
use Rattle.rest_api.proofs.MeasuresLemmas.{metric_not_told, metric_refused, metric_there}
use Rattle.rest_api.proofs.measures.ask_metric.Goals as goal

pub returns-in-Some-clause-does : goal.returns-in-Some-clause-does
returns-in-Some-clause-does g c =
    metric_there g.F.Histories.stands c.args.front.now c.control.new.self c.args.resource c.args.name c.in-Ok.reply c.in-Some.metric c.in-Ok.ensures.controls (sym c.first_id.ensures ∙ c.in-Some.is)

pub returns-in-Ok-clause-does : goal.returns-in-Ok-clause-does
returns-in-Ok-clause-does g c =
    metric_not_told g.F.Histories.stands c.args.front.now c.control.new.self c.args.resource c.args.name c.in-Ok.reply c.unknown_metric.result c.in-Ok.ensures.controls (sym c.first_id.ensures ∙ c.in-None.is) c.unknown_metric.ensures

pub returns-clause-does : goal.returns-clause-does
returns-clause-does g c =
    metric_refused g.F.Histories.stands c.args.front.now c.control.new.self c.args.resource c.args.name c.in-Err.fault c.of_error.result c.in-Err.ensures.controls (tells_as _ _ None _ c.of_command-error.ensures c.of_error.ensures.told)

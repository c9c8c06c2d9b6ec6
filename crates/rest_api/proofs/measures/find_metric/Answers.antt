use Rattle.std.proofs.Common.{None}
use Rattle.rest_api.proofs.DoingLemmas.{tells_as}
use Rattle.rest_api.proofs.MeasuresLemmas.{no_name, no_resource}
use Rattle.rest_api.proofs.measures.find_metric.Goals as goal

pub returns-in-None-name-clause-does : goal.returns-in-None-name-clause-does
returns-in-None-name-clause-does g c =
    rw (c.in-Some.is, c.in-None-name.is) (no_name g.F.Histories.stands c.args.front.now c.in-Some.resource c.unknown_metric.result c.unknown_metric.ensures)

pub returns-in-None-clause-does : goal.returns-in-None-clause-does
returns-in-None-clause-does g c =
    rw c.in-None.is (no_resource g.F.Histories.stands c.args.front.now c.args.name c.of_error.result (tells_as _ _ None _ c.of-error.ensures c.of_error.ensures.told))

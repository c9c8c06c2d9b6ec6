use Rattle.rest_api.proofs.MeasuresLemmas.{of_found}
use Rattle.rest_api.proofs.measures.named_rows.Goals as goal

pub returns-in-Ok-clause-does : goal.returns-in-Ok-clause-does
returns-in-Ok-clause-does g c =
    of_found g.F.Histories.stands c.args.front.now c.find_metric.new.front c.read_rows.new.front c.args.resource c.args.name _ c.read_rows.result c.in-Ok.metric c.in-Ok.ensures.does c.read_rows.ensures.does

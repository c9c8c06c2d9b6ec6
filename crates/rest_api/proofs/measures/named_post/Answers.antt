use Rattle.rest_api.proofs.MeasuresLemmas.{of_found}
use Rattle.rest_api.proofs.measures.named_post.Goals as goal

pub returns-in-Ok-clause-does : goal.returns-in-Ok-clause-does
returns-in-Ok-clause-does g c =
    of_found g.F.Histories.stands c.args.front.now c.find_metric.new.front c.post_to.new.front c.args.resource c.args.name _ c.post_to.result c.in-Ok.metric c.in-Ok.ensures.does c.post_to.ensures.does

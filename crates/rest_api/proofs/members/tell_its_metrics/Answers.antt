use Rattle.std.proofs.Common.{None}
use Rattle.rest_api.proofs.MembersLemmas.{with_found}
use Rattle.rest_api.proofs.members.tell_its_metrics.Goals as goal

pub returns-in-Ok-clause-does : goal.returns-in-Ok-clause-does
returns-in-Ok-clause-does g c =
    with_found g.F.Histories.stands c.args.front.now c.find_resource.new.front c.list_its_metrics.new.front None c.args.id _ c.list_its_metrics.result c.in-Ok.resource c.in-Ok.ensures.does c.list_its_metrics.ensures.does

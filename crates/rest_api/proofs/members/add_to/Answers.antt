use Rattle.std.proofs.Common.{Some}
use Rattle.rest_api.proofs.MembersLemmas.{with_found}
use Rattle.rest_api.proofs.members.add_to.Goals as goal

pub returns-in-Ok-clause-does : goal.returns-in-Ok-clause-does
returns-in-Ok-clause-does g c =
    with_found g.F.Histories.stands c.args.front.now c.find_resource.new.front c.add_members.new.front (Some 0) c.args.id _ c.add_members.result c.in-Ok.resource c.in-Ok.ensures.does c.add_members.ensures.does

use Rattle.rest_api.proofs.DoingLemmas.{tells_as}
use Rattle.rest_api.proofs.MembersLemmas.{resource_refused, resource_there}
use Rattle.rest_api.proofs.members.ask_resource.Goals as goal

pub returns-in-Ok-clause-does : goal.returns-in-Ok-clause-does
returns-in-Ok-clause-does g c = resource_there g.F.Histories.stands c.args.front.now c.control.new.self c.args.stored c.args.resource c.in-Ok.field-0 c.in-Ok.ensures.controls

pub returns-clause-does : goal.returns-clause-does
returns-clause-does g c =
    resource_refused g.F.Histories.stands c.args.front.now c.control.new.self c.args.stored c.args.resource c.in-Err.fault c.of_error.result c.in-Err.ensures.controls
    (tells_as _ _ c.args.stored _ c.of_command-error.ensures c.of_error.ensures.told)

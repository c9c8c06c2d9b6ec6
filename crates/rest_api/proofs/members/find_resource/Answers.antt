use Rattle.rest_api.proofs.DoingLemmas.{tells_as}
use Rattle.rest_api.proofs.MembersLemmas.{resource_broken}
use Rattle.rest_api.proofs.members.find_resource.Goals as goal

pub returns-in-Some-clause-does : goal.returns-in-Some-clause-does
returns-in-Some-clause-does g c = rw c.in-Some.is c.ask_resource.ensures.does

pub returns-in-None-clause-does : goal.returns-in-None-clause-does
returns-in-None-clause-does g c =
    rw c.in-None.is (resource_broken g.F.Histories.stands c.args.front.now c.args.stored c.of_error.result (tells_as _ _ c.args.stored _ c.of-error.ensures c.of_error.ensures.told))

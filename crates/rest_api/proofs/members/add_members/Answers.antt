use Rattle.std.proofs.Common.{[], refl}
use Rattle.rest_api.proofs.MembersLemmas.{adds_none, adds_starved}
use Rattle.rest_api.proofs.members.add_members.Goals as goal

pub returns-in-Err-clause-does : goal.returns-in-Err-clause-does
returns-in-Err-clause-does g c =
    adds_starved g.F.Histories.stands c.args.front.now c.args.front.now c.args.resource c.args.members.now [] c.args.members.now [] c.no_memory.result refl
    (adds_none g.F.Histories.stands c.args.front.now c.args.resource) c.no_memory.ensures

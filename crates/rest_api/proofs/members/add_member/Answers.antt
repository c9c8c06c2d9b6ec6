use Rattle.std.proofs.Common.{Ok, Err, subst}
use Rattle.front_api.specs.Front.{Controls}
use Rattle.front_api.specs.Seen.{LeadsTo}
use Rattle.front_api.specs.declared.command.Command.{Command}
use Rattle.rest_api.proofs.MembersLemmas.{stops_at_it, stops_before, stops_behind_it}
use Rattle.rest_api.proofs.members.add_member.Goals as goal

pub returns-in_default-clause-stopped : goal.returns-in_default-clause-stopped
returns-in_default-clause-stopped g c = stops_before g.F.Histories.stands c.args.front.now c.args.resource c.args.member.now

pub returns-in-Ok-control-clause-stopped : goal.returns-in-Ok-control-clause-stopped
returns-in-Ok-control-clause-stopped g c =
    stops_behind_it g.F.Histories.stands c.args.front.now c.control.new.self c.args.resource c.args.member.now c.in-Ok-control.reply
    (subst (λ (x : Command). LeadsTo g.F.Histories.stands c.args.front.now c.control.new.self (Controls x (Ok c.in-Ok-control.reply))) c.in-Ok.ensures c.in-Ok-control.ensures.controls)

pub returns-clause-stopped : goal.returns-clause-stopped
returns-clause-stopped g c =
    stops_at_it g.F.Histories.stands c.args.front.now c.control.new.self c.args.resource c.args.member.now c.in-Err.fault
    (subst (λ (x : Command). LeadsTo g.F.Histories.stands c.args.front.now c.control.new.self (Controls x (Err c.in-Err.fault))) c.in-Ok.ensures c.in-Err.ensures.controls)

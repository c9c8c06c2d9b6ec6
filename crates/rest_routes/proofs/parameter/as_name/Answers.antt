use Rattle.std.proofs.Common.{refl, sym, ap, Some, ◌∙◌}
use Rattle.rest_routes.proofs.ParameterLemmas.{name-there, name-missing}
use Rattle.rest_routes.proofs.parameter.as_name.Goals as goal

pub returns-in-Ok : goal.returns-in-Ok
returns-in-Ok c = ap Some c.in-Ok.ensures.ok.0 ∙ sym (name-there c.args.text.now c.in-Ok.ensures.ok.1)

pub returns-in-Err-BadName : goal.returns-in-Err-BadName
returns-in-Err-BadName c =
    sym (name-missing c.args.text.now ((rw c.in-Err-BadName.field-0-is at c.in-Err-BadName.ensures.bad_name).0 refl))

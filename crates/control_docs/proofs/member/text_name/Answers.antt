use Rattle.std.proofs.Common.{refl, sym, ap, Ok, ◌∙◌}
use Rattle.control_docs.proofs.MemberLemmas.{name-there, name-missing}
use Rattle.control_docs.proofs.member.text_name.Goals as goal

pub returns-in-Ok : goal.returns-in-Ok
returns-in-Ok c = name-there c.args.text.now c.in-Ok.ensures.ok.1 ∙ sym (ap Ok c.in-Ok.ensures.ok.0)

pub returns-in-Err-BadName : goal.returns-in-Err-BadName
returns-in-Err-BadName c ne =
    name-missing c.args.text.now ((rw c.in-Err-BadName.field-0-is at c.in-Err-BadName.ensures.bad_name).0 refl)

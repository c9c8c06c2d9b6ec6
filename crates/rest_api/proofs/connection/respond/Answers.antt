use Rattle.std.proofs.Common.{sym, subst}
use Rattle.rest_api.specs.Message.{IsResponse}
use Rattle.rest_api.proofs.connection.respond.Goals as goal

pub returns-in-Ok-clause-ok : goal.returns-in-Ok-clause-ok
returns-in-Ok-clause-ok g c = (_, c.response_in.ensures, c.in-Ok.ensures.ok)

pub returns-clause-err : goal.returns-clause-err
returns-clause-err g c =
    let written = c.in-Err.ensures.err in
    (written.0, written.1, subst (IsResponse c.args.is_head c.args.close c.args.answer.now) (sym written.2) c.response_in.ensures, written.3)

use Rattle.std.proofs.Common.{None, Ok, Err, subst}
use Rattle.rest_api.specs.Doing.{TellsError}
use Rattle.rest_replies.specs.declared.error.RestError.{RestError}
use Rattle.rest_script.proofs.ReplyLemmas.{drains_all}
use Rattle.rest_script.proofs.replying.work.Goals as goal

pub returns-in-Ok-clause-drains : goal.returns-in-Ok-clause-drains
returns-in-Ok-clause-drains g c =
    drains_all g.F.Histories.stands c.args.front.now c.drain.new.self (Ok c.in-Ok.turns) c.jobs.result c.in-Ok.ensures.drains c.jobs.ensures

pub returns-in-Err-clause-drains : goal.returns-in-Err-clause-drains
returns-in-Err-clause-drains g c =
    drains_all g.F.Histories.stands c.args.front.now c.drain.new.self (Err c.in-Err.fault) c.of_error.result c.in-Err.ensures.drains
    (subst (λ (e : RestError). TellsError e None c.of_error.result) c.into.ensures c.of_error.ensures.told)

use Rattle.std.proofs.Common.{None, subst}
use Rattle.rest_api.specs.Doing.{TellsError}
use Rattle.rest_replies.specs.declared.error.RestError.{RestError}
use Rattle.rest_script.proofs.ReplyLemmas.{answers_bad, answers_nothing, answers_request, answers_work}
use Rattle.rest_script.proofs.replying.answer_to.Goals as goal

pub returns-in-Nothing-clause-answers : goal.returns-in-Nothing-clause-answers
returns-in-Nothing-clause-answers g c = answers_nothing g.F.Histories.stands c.args.front.now c.args.line.now c.in-Nothing.ensures

pub returns-in-Work-clause-answers : goal.returns-in-Work-clause-answers
returns-in-Work-clause-answers g c =
    answers_work g.F.Histories.stands c.args.front.now c.work.new.front c.args.line.now c.work.result c.in-Work.ensures c.work.ensures.drains

pub returns-in-Request-clause-answers : goal.returns-in-Request-clause-answers
returns-in-Request-clause-answers g c =
    answers_request g.F.Histories.stands c.args.front.now c.handle.new.front c.args.line.now c.in-Request.method.now c.in-Request.target.now c.in-Request.body.now
    c.handle.result c.in-Request.ensures c.handle.ensures.handles

pub returns-in-Bad-clause-answers : goal.returns-in-Bad-clause-answers
returns-in-Bad-clause-answers g c =
    answers_bad g.F.Histories.stands c.args.front.now c.args.line.now c.of_error.result c.in-Bad.ensures
    (subst (λ (e : RestError). TellsError e None c.of_error.result) c.of-error.ensures c.of_error.ensures.told)

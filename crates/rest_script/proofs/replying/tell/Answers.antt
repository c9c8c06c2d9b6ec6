use Rattle.std.proofs.Common.{sym, subst}
use Rattle.rest_script.specs.Replying.{IsReplyLine}
use Rattle.rest_script.proofs.ReplyLemmas.{front_written}
use Rattle.rest_script.proofs.replying.tell.Goals as goal

pub returns-in-Ok-clause-ok : goal.returns-in-Ok-clause-ok
returns-in-Ok-clause-ok g c = (_, c.reply_in.ensures, c.in-Ok.ensures.ok)

pub returns-in-Err-clause-err : goal.returns-in-Err-clause-err
returns-in-Err-clause-err g c =
    let written = front_written (g.K.Sink.taken c.args.sink.now) (g.K.Sink.taken c.put_all.new.sink) c.reply_in.result.now c.in-Err.ensures.err in
    (written.0, written.1, subst (IsReplyLine c.args.answer.now) (sym written.2) c.reply_in.ensures, written.3)

use Rattle.std.proofs.Common.{[], None, Some, refl}
use Rattle.std.proofs.KnownBytes.{Appends-nil}
use Rattle.rest_script.proofs.ReplyLemmas.{writes_reply, writes_reply_front}
use Rattle.rest_script.proofs.replying.answer_line.Goals as goal

pub returns-in-Ok-clause-ok : goal.returns-in-Ok-clause-ok
returns-in-Ok-clause-ok g c =
    let written = c.in-Ok.ensures.ok in
    writes_reply g.F.Histories.stands c.args.front.now c.answer_to.new.front c.args.line.now (Some c.in-Some.answer) written.0
    (g.K.Sink.taken c.args.sink.now) (g.K.Sink.taken c.tell.new.sink) c.in-Some.ensures.answers written.1 written.2

pub returns-in-Some-clause-err : goal.returns-in-Some-clause-err
returns-in-Some-clause-err g c =
    let written = c.in-Err.ensures.err in
    writes_reply_front g.F.Histories.stands c.args.front.now c.answer_to.new.front c.args.line.now (Some c.in-Some.answer) written.0 written.1
    (g.K.Sink.taken c.args.sink.now) (g.K.Sink.taken c.tell.new.sink) c.in-Some.ensures.answers written.2 written.3

pub returns-clause-ok : goal.returns-clause-ok
returns-clause-ok g c =
    let taken = g.K.Sink.taken c.args.sink.now in
    writes_reply g.F.Histories.stands c.args.front.now c.answer_to.new.front c.args.line.now None [] taken taken c.in-None.ensures.answers refl (Appends-nil taken)

use Rattle.std.proofs.Common.{◌∙◌, subst}
use Rattle.std.specs.Io.KnownBytes.{Appends}
use Rattle.std.proofs.KnownBytes.{Appends-nil}
use Rattle.rest_api.proofs.connection.send_continue.Goals as goal

pub returns-then-not-waits-clause-ok : goal.returns-then-not-waits-clause-ok
returns-then-not-waits-clause-ok g c = rw c.if-not-waits.true (Appends-nil (g.K.Sink.taken c.args.sink.now))

pub returns-in-Ok-clause-ok : goal.returns-in-Ok-clause-ok
returns-in-Ok-clause-ok g c =
    rw c.if-not-waits.false (subst (Appends (g.K.Sink.taken c.args.sink.now) (g.K.Sink.taken c.put_front.new.sink)) c.continue_response.ensures c.in-Ok.ensures.ok)

pub returns-in-Err-clause-err : goal.returns-in-Err-clause-err
returns-in-Err-clause-err g c =
    let written = c.in-Err.ensures.err in
    rw c.if-not-waits.false (written.0, written.1, written.2 ∙ c.continue_response.ensures, written.3)

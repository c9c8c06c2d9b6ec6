use Rattle.std.proofs.Common.{◌∙◌, ℕ, List, Err, ap, subst, sym}
use Rattle.http_conn.specs.declared.head.HeadEnd.{HeadEnd}
use Rattle.rest_api.specs.Message.{Responds}
use Rattle.rest_api.specs.Session.{Writes, WritesFront}
use Rattle.rest_api.proofs.ConnectionLemmas.{goes_on_behind, no_write_fault_of, read_fault_of, same_end, stops_at_continue, stops_at_response, stops_behind, stops_in_body}
use Rattle.rest_api.proofs.connection.serve_message.Goals as goal

-- the client couldn't be told to go on
pub returns-in-Err-clause-end : goal.returns-in-Err-clause-end
returns-in-Err-clause-end g c = λ h given taken told behind.
    let failed = c.in-Err.ensures.err in
    stops_at_continue g.F.Histories.stands h c.args.head.now taken told given c.args.front.now c.args.conn.now.bytes (g.S.Source.left c.args.source.now)
    (g.K.Sink.taken c.args.sink.now) (g.K.Sink.taken c.send_continue.new.sink) failed.0 failed.1 failed.2 failed.3

-- the message was answered, and the connection closes
pub returns-in-Ok-answer_message-clause-end : goal.returns-in-Ok-answer_message-clause-end
returns-in-Ok-answer_message-clause-end g c = λ h given taken told behind.
    let head = c.args.head.now in
    let mid = g.K.Sink.taken c.send_continue.new.sink in
    let to = g.K.Sink.taken c.answer_message.new.sink in
    stops_behind g.F.Histories.stands h head taken told given c.args.front.now c.answer_message.new.front c.args.conn.now c.take_body.new.self
    (g.S.Source.left c.args.source.now) (g.S.Source.left c.take_body.new.source) (g.K.Sink.taken c.args.sink.now) mid to c.in-Ok.body.items
    c.in-Ok.ensures.body c.in-Ok.ensures.size c.if-head.true c.in_default.ensures.ok
    (subst (λ (body : List ℕ). Writes g.F.Histories.stands c.args.front.now c.answer_message.new.front (Responds head.method.items head.target.items body head.close) mid to)
    c.deref.ensures.value c.in-Ok-answer_message.ensures.ok)

-- it was answered, and the connection goes on
pub returns-in-Ok-2-clause-on : goal.returns-in-Ok-2-clause-on
returns-in-Ok-2-clause-on g c = λ h told.
    let head = c.args.head.now in
    let mid = g.K.Sink.taken c.send_continue.new.sink in
    let to = g.K.Sink.taken c.answer_message.new.sink in
    goes_on_behind g.F.Histories.stands h head told c.args.front.now c.answer_message.new.front c.args.conn.now c.take_body.new.self
    (g.S.Source.left c.args.source.now) (g.S.Source.left c.take_body.new.source) (g.K.Sink.taken c.args.sink.now) mid to c.in-Ok.body.items
    c.in-Ok.ensures.body c.in-Ok.ensures.size c.if-head.false c.in_default.ensures.ok
    (subst (λ (body : List ℕ). Writes g.F.Histories.stands c.args.front.now c.answer_message.new.front (Responds head.method.items head.target.items body head.close) mid to)
    c.deref.ensures.value c.in-Ok-2.ensures.ok)

-- its response couldn't be written
pub returns-in-Ok-clause-end : goal.returns-in-Ok-clause-end
returns-in-Ok-clause-end g c = λ h given taken told behind.
    let head = c.args.head.now in
    let mid = g.K.Sink.taken c.send_continue.new.sink in
    let to = g.K.Sink.taken c.answer_message.new.sink in
    stops_at_response g.F.Histories.stands h head taken told given c.args.front.now c.answer_message.new.front c.args.conn.now c.take_body.new.self
    (g.S.Source.left c.args.source.now) (g.S.Source.left c.take_body.new.source) (g.K.Sink.taken c.args.sink.now) mid to c.in-Ok.body.items
    c.in-Ok.ensures.body c.in-Ok.ensures.size c.in_default.ensures.ok
    (subst (λ (body : List ℕ). WritesFront g.F.Histories.stands c.args.front.now c.answer_message.new.front (Responds head.method.items head.target.items body head.close) mid to)
    c.deref.ensures.value c.in-Err-answer_message.ensures.err)

-- no body came
pub returns-clause-end : goal.returns-clause-end
returns-clause-end g c = λ h given taken told behind.
    let dropped = c.in-Err-take_body.ensures.dropped in
    rw c.end_of.ensures (stops_in_body g.F.Histories.stands h c.args.head.now taken told given c.args.front.now c.in-Err-take_body.end c.args.conn.now c.take_body.new.self
    (g.S.Source.left c.args.source.now) (g.S.Source.left c.take_body.new.source) (g.K.Sink.taken c.args.sink.now) (g.K.Sink.taken c.send_continue.new.sink) dropped.0 dropped.1
    behind c.in-Err-take_body.ensures.end c.in_default.ensures.ok)

pub returns-clause-read_cause : goal.returns-clause-read_cause
returns-clause-read_cause g c = λ e.
    c.in-Err-take_body.ensures.cause (ap (λ (end : HeadEnd). Err end) (read_fault_of c.in-Err-take_body.end (sym c.end_of.ensures ∙ same_end _ _ e)))

pub returns-clause-write_cause : goal.returns-clause-write_cause
returns-clause-write_cause g c = λ e. absurd (no_write_fault_of c.in-Err-take_body.end (sym c.end_of.ensures ∙ same_end _ _ e))

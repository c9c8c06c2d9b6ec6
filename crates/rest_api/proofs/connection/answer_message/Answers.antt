use Rattle.std.proofs.Common.{ℕ, Bool, List, ◌++◌, ◌∙◌, ap, subst}
use Rattle.front_api.specs.Seen.{LeadsTo}
use Rattle.rest_api.specs.Handling.{Handles}
use Rattle.rest_api.specs.Message.{IsResponse, asks_head}
use Rattle.rest_api.proofs.ConnectionLemmas.{writes_front, writes_response}
use Rattle.rest_api.proofs.connection.answer_message.Goals as goal

pub returns-in-Ok-clause-ok : goal.returns-in-Ok-clause-ok
returns-in-Ok-clause-ok g c =
    let written = c.in-Ok.ensures.ok in
    let head = c.args.head.now in
    let front = c.args.front.now in
    let body = c.args.body.now in
    let answer = c.handle-answer.result in
    writes_response g.F.Histories.stands front c.handle-answer.new.front head.method.items head.target.items body head.close answer written.0
    (g.K.Sink.taken c.args.sink.now) (g.K.Sink.taken c.respond.new.sink)
    (subst (λ (m : List ℕ). LeadsTo g.F.Histories.stands front c.handle-answer.new.front (Handles m head.target.items body answer)) c.deref.ensures.value
    (subst (λ (t : List ℕ). LeadsTo g.F.Histories.stands front c.handle-answer.new.front (Handles c.deref.result.now t body answer)) c.deref-2.ensures.value c.handle-answer.ensures.handles))
    (subst (λ (is : Bool). IsResponse is head.close answer written.0) (c.asks_head.ensures ∙ ap (λ (m : List ℕ). asks_head m) c.deref-3.ensures.value) written.1) written.2

pub returns-clause-err : goal.returns-clause-err
returns-clause-err g c =
    let written = c.in-Err.ensures.err in
    let head = c.args.head.now in
    let front = c.args.front.now in
    let body = c.args.body.now in
    let answer = c.handle-answer.result in
    writes_front g.F.Histories.stands front c.handle-answer.new.front head.method.items head.target.items body head.close answer written.0 written.1
    (g.K.Sink.taken c.args.sink.now) (g.K.Sink.taken c.respond.new.sink)
    (subst (λ (m : List ℕ). LeadsTo g.F.Histories.stands front c.handle-answer.new.front (Handles m head.target.items body answer)) c.deref.ensures.value
    (subst (λ (t : List ℕ). LeadsTo g.F.Histories.stands front c.handle-answer.new.front (Handles c.deref.result.now t body answer)) c.deref-2.ensures.value c.handle-answer.ensures.handles))
    (subst (λ (is : Bool). IsResponse is head.close answer (written.0 ++ written.1)) (c.asks_head.ensures ∙ ap (λ (m : List ℕ). asks_head m) c.deref-3.ensures.value) written.2) written.3

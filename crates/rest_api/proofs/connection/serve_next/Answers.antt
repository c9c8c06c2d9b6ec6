use Rattle.std.proofs.Common.{Err, ap}
use Rattle.http_conn.specs.declared.head.HeadEnd.{HeadEnd}
use Rattle.rest_api.proofs.ConnectionLemmas.{body_fits, goes_on_from_head, same_end, stops_before_head, stops_from_head, taken_of}
use Rattle.rest_api.proofs.connection.serve_next.Goals as goal

pub serve_message-requires : goal.serve_message-requires
serve_message-requires g c = body_fits c.in-Ok.ensures.head.head c.in-Ok.head c.in-Ok.ensures.head.told

pub returns-in-None-clause-on : goal.returns-in-None-clause-on
returns-in-None-clause-on g c =
    let given = c.in-Ok.ensures.head in
    goes_on_from_head g.F.Histories.stands c.args.front.now c.serve_message.new.front c.args.conn.now c.next_head.new.self c.serve_message.new.conn
    (g.S.Source.left c.args.source.now) (g.S.Source.left c.next_head.new.source) (g.S.Source.left c.serve_message.new.source)
    (g.K.Sink.taken c.args.sink.now) (g.K.Sink.taken c.serve_message.new.sink) c.in-Ok.head given
    (c.in-None.ensures.on given.head given.told)

pub returns-in-Ok-clause-end : goal.returns-in-Ok-clause-end
returns-in-Ok-clause-end g c =
    let given = c.in-Ok.ensures.head in
    let before = g.S.Source.left c.args.source.now in
    let between = g.S.Source.left c.next_head.new.source in
    stops_from_head g.F.Histories.stands c.args.front.now c.serve_message.new.front c.args.conn.now c.next_head.new.self
    before between (g.S.Source.left c.serve_message.new.source)
    (g.K.Sink.taken c.args.sink.now) (g.K.Sink.taken c.serve_message.new.sink) c.in-Ok.head given c.in-Some.end
    (c.in-Some.ensures.end given.head c.args.conn.now.given (taken_of c.args.conn.now c.next_head.new.self before between c.in-Ok.head given) given.told given.out.counted)

pub returns-clause-end : goal.returns-clause-end
returns-clause-end g c =
    let new = c.next_head.new.self in
    let after = g.S.Source.left c.next_head.new.source in
    let ended = c.end_head.ensures.ends new.given new.bytes after c.in-Err.ensures.end in
    stops_before_head g.F.Histories.stands c.args.front.now c.args.conn.now new (g.S.Source.left c.args.source.now) after
    (g.K.Sink.taken c.args.sink.now) (g.K.Sink.taken c.end_head.new.sink) ended.0 c.end_head.result c.in-Err.ensures.kept ended.1 ended.2

pub returns-clause-read_cause : goal.returns-clause-read_cause
returns-clause-read_cause g c = λ e.
    c.in-Err.ensures.cause (ap (λ (end : HeadEnd). Err end) (c.end_head.ensures.read_cause (same_end _ _ e)))

pub returns-clause-write_cause : goal.returns-clause-write_cause
returns-clause-write_cause g c = λ e. c.end_head.ensures.write_cause (same_end _ _ e)

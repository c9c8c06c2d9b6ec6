use Rattle.std.proofs.Common.{arith}
use Rattle.rest_script.proofs.ServingLemmas.{serves_line, stops_before_line}
use Rattle.rest_script.proofs.serving.serve_line.Goals as goal

-- no line came
pub returns-in-Err-clause-end : goal.returns-in-Err-clause-end
returns-in-Err-clause-end g c =
    stops_before_line g.F.Histories.stands c.args.front.now c.args.lines.now c.next_line.new.self
    (g.S.Source.left c.args.source.now) (g.S.Source.left c.next_line.new.source) (g.K.Sink.taken c.args.sink.now) c.in-Err.end
    c.in-Err.ensures.held c.in-Err.ensures.end c.in-Err.ensures.reads

-- the line was answered
pub returns-in-Ok-answer_line-clause-on : goal.returns-in-Ok-answer_line-clause-on
returns-in-Ok-answer_line-clause-on g c =
    let mid = c.next_line.new.self in
    let len = c.in-Ok.len in
    let from = g.K.Sink.taken c.args.sink.now in
    let to = g.K.Sink.taken c.answer_line.new.sink in
    serves_line g.F.Histories.stands c.args.front.now c.answer_line.new.front c.args.lines.now mid c.pass.new.self
    (g.S.Source.left c.args.source.now) (g.S.Source.left c.next_line.new.source) from to len
    c.in-Ok.ensures.held (omega (arith, c.in-Ok.ensures.fits)) c.in-Ok.ensures.line c.pass.ensures.bytes c.pass.ensures.given
    c.front.result.now c.front.ensures c.in-Ok-answer_line.ensures.ok

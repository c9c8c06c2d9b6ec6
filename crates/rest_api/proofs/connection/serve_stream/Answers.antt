use Rattle.std.proofs.Common.{◌∙◌, Some, ap, arith, refl}
use Rattle.gno_num.specs.Faults.{Rose-from}
use Rattle.rest_api.specs.declared.conn_end.ConnEnd.{ConnEnd}
use Rattle.rest_api.proofs.ConnectionLemmas.{counts_more, serves_nothing, serves_to_end, serves_too_many, serving_first, serving_more}
use Rattle.rest_api.proofs.connection.serve_stream.Goals as goal

pub loop-served-init : goal.loop-served-init
loop-served-init g c = record {
  serving = serving_first g.F.Histories.stands c.args.front.now c.in-Ok.conn (g.S.Source.left c.args.source.now) (g.K.Sink.taken c.args.sink.now) c.in-Ok.ensures.bytes c.in-Ok.ensures.given;
  counted = omega arith;
  source_later = omega arith;
  sink_later = omega arith;
  same = (refl, refl, refl);
}

pub loop-served-preserved : goal.loop-served-preserved
loop-served-preserved g c =
    let first = c.args.front.now in
    let said = c.loop-served.invariant in
    let more = counts_more g.F.Histories.stands c.loop-served.front c.serve_next.new.front c.loop-served.conn c.serve_next.new.conn
    (g.S.Source.left c.loop-served.source) (g.S.Source.left c.serve_next.new.source) (g.K.Sink.taken c.loop-served.sink) (g.K.Sink.taken c.serve_next.new.sink) c.in_default-serve_next.ensures.on in
    record {
      serving = serving_more g.F.Histories.stands first c.loop-served.front c.serve_next.new.front c.loop-served.conn c.serve_next.new.conn
          (g.S.Source.left c.args.source.now) (g.S.Source.left c.loop-served.source) (g.S.Source.left c.serve_next.new.source)
          (g.K.Sink.taken c.args.sink.now) (g.K.Sink.taken c.loop-served.sink) (g.K.Sink.taken c.serve_next.new.sink) said.serving c.in_default-serve_next.ensures.on;
      counted = omega (arith, said.counted, more);
      source_later = omega (arith, said.source_later, c.serve_next.ensures.source_later);
      sink_later = omega (arith, said.sink_later, c.serve_next.ensures.sink_later);
      same = (c.serve_next.ensures.same.0 ∙ said.same.0, c.serve_next.ensures.same.1 ∙ said.same.1, c.serve_next.ensures.same.2 ∙ said.same.2);
    }

pub returns-in-Some-clause-serves : goal.returns-in-Some-clause-serves
returns-in-Some-clause-serves g c =
    serves_to_end g.F.Histories.stands c.args.front.now c.loop-served.front c.serve_next.new.front c.loop-served.conn
    (g.S.Source.left c.args.source.now) (g.S.Source.left c.loop-served.source) (g.S.Source.left c.serve_next.new.source)
    (g.K.Sink.taken c.args.sink.now) (g.K.Sink.taken c.loop-served.sink) (g.K.Sink.taken c.serve_next.new.sink) c.in-Some.end
    c.loop-served.invariant.serving c.in-Some.ensures.end

pub returns-in-Some-clause-read_cause : goal.returns-in-Some-clause-read_cause
returns-in-Some-clause-read_cause g c = λ e.
    Rose-from (g.S.Source.faults c.args.source.now) c.loop-served.invariant.source_later (c.in-Some.ensures.read_cause (ap (λ (end : ConnEnd). Some end) e))

pub returns-in-Some-clause-write_cause : goal.returns-in-Some-clause-write_cause
returns-in-Some-clause-write_cause g c = λ e.
    Rose-from (g.K.Sink.faults c.args.sink.now) c.loop-served.invariant.sink_later (c.in-Some.ensures.write_cause (ap (λ (end : ConnEnd). Some end) e))

pub returns-in-Some-clause-source_later : goal.returns-in-Some-clause-source_later
returns-in-Some-clause-source_later g c = omega (arith, c.loop-served.invariant.source_later, c.serve_next.ensures.source_later)

pub returns-in-Some-clause-sink_later : goal.returns-in-Some-clause-sink_later
returns-in-Some-clause-sink_later g c = omega (arith, c.loop-served.invariant.sink_later, c.serve_next.ensures.sink_later)

pub returns-in-Some-clause-same : goal.returns-in-Some-clause-same
returns-in-Some-clause-same g c =
    let so-far = c.loop-served.invariant.same in
    let next = c.serve_next.ensures.same in
    (next.0 ∙ so-far.0, next.1 ∙ so-far.1, next.2 ∙ so-far.2)

pub returns-in_default-clause-serves : goal.returns-in_default-clause-serves
returns-in_default-clause-serves g c =
    serves_nothing g.F.Histories.stands c.args.front.now (g.S.Source.left c.args.source.now) (g.K.Sink.taken c.args.sink.now)

pub returns-clause-serves : goal.returns-clause-serves
returns-clause-serves g c =
    serves_too_many g.F.Histories.stands c.args.front.now c.loop-served.front c.loop-served.conn (g.S.Source.left c.args.source.now) (g.S.Source.left c.loop-served.source)
    (g.K.Sink.taken c.args.sink.now) (g.K.Sink.taken c.loop-served.sink) c.loop-served.invariant.serving (omega (arith, c.loop-served.invariant.counted))

pub returns-clause-source_later : goal.returns-clause-source_later
returns-clause-source_later g c = c.loop-served.invariant.source_later

pub returns-clause-sink_later : goal.returns-clause-sink_later
returns-clause-sink_later g c = c.loop-served.invariant.sink_later

pub returns-clause-same : goal.returns-clause-same
returns-clause-same g c = c.loop-served.invariant.same

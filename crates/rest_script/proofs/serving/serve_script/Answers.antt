use Rattle.std.proofs.Common.{◌≤◌, ◌^◌, ◌+◌, ◌∙◌, length, arith, refl, subst}
use Rattle.http_conn.specs.Bytes.{Held}
use Rattle.rest_script.proofs.ReaderLemmas.{no_bytes}
use Rattle.rest_script.proofs.ServingLemmas.{counts_more, serves_nothing, serves_to_end, serves_too_many, serving_first, serving_more}
use Rattle.rest_script.proofs.serving.serve_script.Goals as goal

pub loop-served-init : goal.loop-served-init
loop-served-init g c = record {
  serving = serving_first g.F.Histories.stands c.args.front.now c.in-Ok.lines (g.S.Source.left c.args.source.now) (g.K.Sink.taken c.args.sink.now) c.in-Ok.ensures.bytes c.in-Ok.ensures.given;
  counted = omega arith;
  source_later = omega arith;
  sink_later = omega arith;
  same = (refl, refl, refl);
}

pub loop-served-preserved : goal.loop-served-preserved
loop-served-preserved g c =
    let said = c.loop-served.invariant in
    let served = c.in_default-serve_line.ensures.on in
    let more = counts_more g.F.Histories.stands c.loop-served.front c.serve_line.new.front c.loop-served.lines c.serve_line.new.lines
    (g.S.Source.left c.loop-served.source) (g.S.Source.left c.serve_line.new.source) (g.K.Sink.taken c.loop-served.sink) (g.K.Sink.taken c.serve_line.new.sink) served in
    record {
      serving = serving_more g.F.Histories.stands c.args.front.now c.loop-served.front c.serve_line.new.front c.loop-served.lines c.serve_line.new.lines
          (g.S.Source.left c.args.source.now) (g.S.Source.left c.loop-served.source) (g.S.Source.left c.serve_line.new.source)
          (g.K.Sink.taken c.args.sink.now) (g.K.Sink.taken c.loop-served.sink) (g.K.Sink.taken c.serve_line.new.sink) said.serving served;
      counted = omega (arith, said.counted, more);
      source_later = omega (arith, said.source_later, c.serve_line.ensures.source_later);
      sink_later = omega (arith, said.sink_later, c.serve_line.ensures.sink_later);
      same = (c.serve_line.ensures.same.0 ∙ said.same.0, c.serve_line.ensures.same.1 ∙ said.same.1, c.serve_line.ensures.same.2 ∙ said.same.2);
    }

pub returns-in-Some-clause-serves : goal.returns-in-Some-clause-serves
returns-in-Some-clause-serves g c =
    serves_to_end g.F.Histories.stands c.args.front.now c.loop-served.front c.serve_line.new.front c.loop-served.lines c.serve_line.new.lines
    (g.S.Source.left c.args.source.now) (g.S.Source.left c.loop-served.source) (g.S.Source.left c.serve_line.new.source)
    (g.K.Sink.taken c.args.sink.now) (g.K.Sink.taken c.loop-served.sink) (g.K.Sink.taken c.serve_line.new.sink) c.in-Some.end
    c.loop-served.invariant.serving c.in-Some.ensures.end

pub returns-in_default-clause-serves : goal.returns-in_default-clause-serves
returns-in_default-clause-serves g c =
    serves_nothing g.F.Histories.stands c.args.front.now (g.S.Source.left c.args.source.now) (g.K.Sink.taken c.args.sink.now)

pub returns-clause-serves : goal.returns-clause-serves
returns-clause-serves g c =
    let lines = c.loop-served.lines in
    let most : lines.given + length lines.bytes ≤ 2 ^ 40 = subst (λ (h : Held). h.given + length h.bytes ≤ 2 ^ 40) c.lines-2.view_is c.lines-2.invariant in
    serves_too_many g.F.Histories.stands c.args.front.now c.loop-served.front lines (g.S.Source.left c.args.source.now) (g.S.Source.left c.loop-served.source)
    (g.K.Sink.taken c.args.sink.now) (g.K.Sink.taken c.loop-served.sink) c.loop-served.invariant.serving (omega (arith, c.loop-served.invariant.counted)) most (no_bytes lines.bytes)

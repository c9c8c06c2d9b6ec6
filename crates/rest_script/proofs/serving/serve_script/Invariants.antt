use Rattle.std.proofs.Common.{◌≡◌, ◌≤◌}
use Rattle.rest_script.proofs.ServingLemmas.{Serving}
use Rattle.rest_script.proofs.serving.serve_script.Given as goal

abbrev pub invariant-loop-served : goal.invariant-loop-served
invariant-loop-served g l = record {
  serving : Serving g.F.Histories.stands l.fn.front l.front l.lines (g.S.Source.left l.fn.source) (g.S.Source.left l.source) (g.K.Sink.taken l.fn.sink) (g.K.Sink.taken l.sink);
  counted : l._served ≤ l.lines.given;
  source_later : g.S.Source.faults l.fn.source ≤ g.S.Source.faults l.source;
  sink_later : g.K.Sink.faults l.fn.sink ≤ g.K.Sink.faults l.sink;
  same : (g.F.Histories.sack_count l.front ≡ g.F.Histories.sack_count l.fn.front) × (g.F.Histories.duty l.front ≡ g.F.Histories.duty l.fn.front) × (g.F.Histories.made l.front ≡ g.F.Histories.made l.fn.front);
}

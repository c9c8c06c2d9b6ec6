use Rattle.std.proofs.Common.{◌*◌, codes, decimal}
use Rattle.gno_time.specs.Text.{span_text_of}
use Rattle.control_docs.proofs.AppendLemmas.{appended5}
use Rattle.control_docs.specs.Texts.{definition_end_text, in_quotes}
use Rattle.control_docs.proofs.texts.push_definition.Goals as goal

pub returns : goal.returns
returns c =
    let d = c.args.definition.now in
    appended5 c.args.text.now.items (codes "{\"granularity\":") (in_quotes (span_text_of d.granularity)) (codes ",\"points\":") (decimal d.points) (definition_end_text (d.granularity * d.points)) c.in_ok-push_word.ensures c.in_ok-push_span.ensures c.in_ok-push_word-2.ensures c.in_ok-push_points.ensures (rw c.timespan_of.ensures at c.in_ok-push_definition_end.ensures)

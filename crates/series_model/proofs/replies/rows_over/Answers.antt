use Rattle.std.proofs.Common.{◌-◌, ◌++◌, List, drop, length, Some, sym, ap, ◌∙◌, arith}
use Rattle.series_model.specs.declared.answer.Row.{Row}
use Rattle.series_model.specs.Answer.{oldest_point_of}
use Rattle.series_model.specs.Query.{rows_over, rows_wanted, asked_of}
use Rattle.series_model.proofs.ReplyLaws.{rows_named, rows_unnamed}
use Rattle.series_model.proofs.replies.rows_over.Goals.{then-is_named+in_ok-points+in_ok-add_rows, else-is_named}
use Rattle.series_model.proofs.replies.rows_over.Goals as goal

pub loop-k-preserved : goal.loop-k-preserved
loop-k-preserved c =
    let a = c.args in
    let query = a.query.now in
    let ds = a.definitions.now in
    let k = c.loop-k.k in
    let d = c.index-definitions-count.result in
    let oldest = oldest_point_of a.last d in
    let so_far : List Row = rows_over query a.kind a.series.now (Some a.last) (asked_of query (drop (length ds - k) ds)) in
    elim c.if-is_named.branch [
      | then-is_named+in_ok-points+in_ok-add_rows w ↦
          w.answer-is ∙ w.in_ok-add_rows.ensures
          ∙ ap (λ l. l ++ rows_wanted query d.granularity oldest w.as_slice.result.now) c.loop-k.invariant
          ∙ ap (λ ps. so_far ++ rows_wanted query d.granularity oldest ps) (w.as_slice.ensures.value ∙ w.in_ok-points.ensures)
          ∙ sym (rows_named query a.kind a.series.now a.last ds k d (omega arith) c.index-definitions-count.is (sym c.is_named.ensures ∙ w.if-is_named.true))
      | else-is_named w ↦
          w.answer-is ∙ c.loop-k.invariant
          ∙ sym (rows_unnamed query a.kind a.series.now a.last ds k d (omega arith) c.index-definitions-count.is (sym c.is_named.ensures ∙ w.if-is_named.false))
    ]

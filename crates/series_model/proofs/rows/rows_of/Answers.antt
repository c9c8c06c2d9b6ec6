use Rattle.std.proofs.Common.{leb, map, take, [], ◌∷◌, ◌++◌, sym, ap, ◌∙◌, arith}
use Rattle.std.specs.List.{filter}
use Rattle.std.proofs.lemmas.Bool.{le-leb, lt-leb}
use Rattle.series_model.specs.Answer.{row_of}
use Rattle.series_model.proofs.Loops.{map_filter-in, filter-out}
use Rattle.series_model.proofs.rows.rows_of.Goals.{then-oldest-nanos+in_ok-add, else-oldest-nanos}
use Rattle.series_model.proofs.rows.rows_of.Goals as goal

pub loop-p-preserved : goal.loop-p-preserved
loop-p-preserved c =
    let g = c.args.definition.now.granularity in
    let oldest = c.oldest_point-oldest.result in
    let items = c.as_slice-p-items.result.now in
    let i = c.loop-p.p-index in
    elim c.if-oldest-nanos.branch [
      | then-oldest-nanos+in_ok-add w ↦
          w.answer-is ∙ w.in_ok-add.ensures.ok ∙ ap (λ l. l ++ w.row_of.result ∷ []) c.loop-p.invariant
          ∙ ap (λ r. map (row_of g) (filter (λ p. leb oldest p.at) (take i items)) ++ r ∷ []) w.row_of.ensures
          ∙ sym (map_filter-in (row_of g) (λ p. leb oldest p.at) items i c.p-item.result (omega arith) c.p-item.is (le-leb oldest c.p-item.result.at (omega arith)))
      | else-oldest-nanos w ↦
          w.answer-is ∙ c.loop-p.invariant
          ∙ ap (map (row_of g)) (sym (filter-out (λ p. leb oldest p.at) items i c.p-item.result (omega arith) c.p-item.is (lt-leb oldest c.p-item.result.at (omega arith))))
    ]

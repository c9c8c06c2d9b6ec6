use Rattle.std.proofs.Common.{◌++◌, sym, ap, ◌∙◌}
use Rattle.std.proofs.lemmas.List.{take-map}
use Rattle.std.proofs.lemmas.Result.{err_from_is_err_and}
use Rattle.series_model.specs.Answer.{row_of}
use Rattle.measure_query.proofs.wanted.add_rows.Goals as goal

pub returns-in_err-add-clause-err : goal.returns-in_err-add-clause-err
returns-in_err-add-clause-err c =
    let p = err_from_is_err_and c.from_residual.result c.from_residual.ensures.1 in
    let i = c.loop-p.p-index in
    rw p.1 (i, c.in_err-add.ensures.err ∙ c.loop-p.invariant ∙ ap (λ rows. c.args.out.now ++ rows) (sym (take-map (row_of c.args.granularity) i c.args.points.now)))

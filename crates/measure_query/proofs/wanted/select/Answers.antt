use Rattle.std.proofs.Common.{◌++◌, List, take, sym, ap, subst, ◌∙◌, append_assoc, arith}
use Rattle.std.proofs.lemmas.Result.{err_from_is_err_and}
use Rattle.series_model.specs.declared.answer.Row.{Row}
use Rattle.series_model.specs.Query.{rows_wanted}
use Rattle.measure_query.specs.Wanted.{AddsFront, AreRising, points_in}
use Rattle.measure_query.proofs.WantedLemmas.{rows-more, rows_front, split_rising, wanted_between}
use Rattle.measure_query.proofs.wanted.select.Goals as goal

pub points_between-wanted-requires : goal.points_between-wanted-requires
points_between-wanted-requires c =
    subst AreRising (sym c.points.ensures) (split_rising c.args.splits.now c.loop-split.split-index c.split-item.result (omega arith) c.split-item.is c.requires)

pub returns-in_err-add_rows-clause-err : goal.returns-in_err-add_rows-clause-err
returns-in_err-add_rows-clause-err c =
    let a = c.args in
    let p = err_from_is_err_and c.from_residual.result c.from_residual.ensures.1 in
    rw p.1
    (rows_front a.query.now a.granularity a.oldest a.splits.now c.loop-split.split-index c.split-item.result a.out.now c.loop-split.out c.add_rows.new.out (omega arith) c.split-item.is c.loop-split.invariant
    (subst (λ (more : List Row). AddsFront more c.loop-split.out c.add_rows.new.out) (wanted_between a.query.now a.granularity a.oldest c.first_wanted-first.result c.split-item.result.points c.points.result.now c.points_between-wanted.result.now c.first_wanted-first.ensures c.points.ensures c.points_between-wanted.ensures) c.in_err-add_rows.ensures.err))

pub loop-split-preserved : goal.loop-split-preserved
loop-split-preserved c =
    let a = c.args in
    let wanted = rows_wanted a.query.now a.granularity a.oldest in
    c.in_ok-add_rows.ensures.ok
    ∙ ap (λ more. c.loop-split.out ++ more) (wanted_between a.query.now a.granularity a.oldest c.first_wanted-first.result c.split-item.result.points c.points.result.now c.points_between-wanted.result.now c.first_wanted-first.ensures c.points.ensures c.points_between-wanted.ensures)
    ∙ ap (λ out. out ++ wanted c.split-item.result.points) c.loop-split.invariant
    ∙ append_assoc a.out.now (wanted (points_in (take c.loop-split.split-index a.splits.now))) (wanted c.split-item.result.points)
    ∙ ap (λ more. a.out.now ++ more) (sym (rows-more a.query.now a.granularity a.oldest a.splits.now c.loop-split.split-index c.split-item.result (omega arith) c.split-item.is))

use Rattle.std.proofs.Common.{◌≡◌, map, take}
use Rattle.series_model.specs.Answer.{row_of}
use Rattle.series_model.specs.Points.{points_from}
use Rattle.series_model.proofs.rows.rows_of.Given as goal

-- the rows of the points so far
abbrev pub invariant-loop-p : goal.invariant-loop-p
invariant-loop-p l =
    l.answer ≡ map (row_of l.definition.granularity) (points_from l.oldest (take l.p-index l.p-items))

use Rattle.std.proofs.Common.{◌≡◌, ◌++◌, take}
use Rattle.series_model.specs.Query.{rows_wanted}
use Rattle.shelf_query.proofs.points.add_points.Given as goal

-- the rows of the points so far
abbrev pub invariant-loop-p : goal.invariant-loop-p
invariant-loop-p l = l.rows ≡ l.fn.rows ++ rows_wanted l.query l.granularity l.fn.oldest (take l.p-index l.points)

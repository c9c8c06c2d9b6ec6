use Rattle.std.proofs.Common.{◌≡◌, ◌++◌, take}
use Rattle.series_model.specs.Query.{rows_wanted}
use Rattle.series_model.proofs.replies.add_rows.Given as goal

-- the rows of the points so far
abbrev pub invariant-loop-p : goal.invariant-loop-p
invariant-loop-p l =
    l.answer ≡ l.fn.answer ++ rows_wanted l.query l.definition.granularity l.oldest (take l.p-index l.points)

use Rattle.std.proofs.Common.{◌≡◌, ◌++◌, map, take}
use Rattle.series_model.specs.Answer.{row_of}
use Rattle.measure_query.proofs.wanted.add_rows.Given as goal

-- the rows of the points so far
abbrev pub invariant-loop-p : goal.invariant-loop-p
invariant-loop-p l = l.out ≡ l.fn.out ++ map (row_of l.granularity) (take l.p-index l.points)

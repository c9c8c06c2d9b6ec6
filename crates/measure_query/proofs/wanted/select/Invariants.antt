use Rattle.std.proofs.Common.{◌≡◌, ◌++◌, take}
use Rattle.series_model.specs.Query.{rows_wanted}
use Rattle.measure_query.specs.Wanted.{points_in}
use Rattle.measure_query.proofs.wanted.select.Given as goal

-- the rows of the splits so far
abbrev pub invariant-loop-split : goal.invariant-loop-split
invariant-loop-split l =
    l.out ≡ l.fn.out ++ rows_wanted l.query l.granularity l.fn.oldest (points_in (take l.split-index l.splits))

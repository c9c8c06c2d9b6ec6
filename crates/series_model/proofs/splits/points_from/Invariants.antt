use Rattle.std.proofs.Common.{◌≡◌, take}
use Rattle.series_model.specs.Points.{points_from}
use Rattle.series_model.proofs.splits.points_from.Given as goal

-- the points so far that aren't before the time
abbrev pub invariant-loop-p : goal.invariant-loop-p
invariant-loop-p l = l.kept.items ≡ points_from l.from (take l.p-index l.points)

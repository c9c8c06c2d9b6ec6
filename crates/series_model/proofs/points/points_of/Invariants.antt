use Rattle.std.proofs.Common.{◌≡◌, take}
use Rattle.std.specs.List.{filter_map}
use Rattle.series_model.specs.Points.{point_at}
use Rattle.series_model.proofs.points.points_of.Given as goal

-- the points of the starts so far
abbrev pub invariant-loop-start : goal.invariant-loop-start
invariant-loop-start l =
    l.points.items ≡ filter_map (point_at l.kind l.granularity l.series) (take l.start-index l.start-items)

use Rattle.std.proofs.Common.{◌≡◌, ◌++◌, take, All}
use Rattle.std.specs.List.{flat_map}
use Rattle.gno_codec.specs.Blocks.{point_bytes, IsPointOf}
use Rattle.gno_codec.proofs.split.put_points.Given as goal

abbrev pub invariant-loop-point : goal.invariant-loop-point
invariant-loop-point l =
    (l.out.items ≡ l.initial.out.items ++ flat_map (point_bytes l.granularity l.key) (take l.point-index l.points))
    × All (IsPointOf l.granularity l.key) (take l.point-index l.points)

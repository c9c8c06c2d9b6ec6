use Rattle.std.proofs.Common.{◌≡◌, ℕ, List, map, take}
use Rattle.std.specs.List.{filter_map}
use Rattle.series_model.specs.declared.measure.Measure.{Measure}
use Rattle.series_model.specs.Points.{point_at}
use Rattle.regroup.specs.Tallies.{bucket_tally}
use Rattle.regroup.proofs.tallies.points_by.Given as goal

-- the points of the tallies so far
abbrev pub invariant-loop-tally : goal.invariant-loop-tally
invariant-loop-tally l =
    (granularity : ℕ) (members : List Measure) (starts : List ℕ) → l.tallies ≡ map (bucket_tally granularity members) starts
    → l.points.items ≡ filter_map (point_at l.kind granularity members) (take l.tally-index starts)

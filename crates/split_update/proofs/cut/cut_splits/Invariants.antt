use Rattle.std.proofs.Common.{length, ◌-◌, ◌≡◌, ◌≤◌, ◌++◌, drop}
use Rattle.series_model.specs.Stored.{splits_of}
use Rattle.split_update.proofs.cut.cut_splits.Given as goal

-- the splits so far and those of the points that are left
abbrev pub invariant-loop-place : goal.invariant-loop-place
invariant-loop-place l =
    record {
      within : l.place ≤ length l.points;
      so_far : l.splits.items ++ splits_of l.granularity (drop l.place l.points) ≡ splits_of l.granularity l.points;
    }

abbrev pub decreases-loop-place : goal.decreases-loop-place
decreases-loop-place l = length l.points - l.place

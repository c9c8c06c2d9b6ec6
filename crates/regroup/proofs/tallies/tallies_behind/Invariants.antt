use Rattle.std.proofs.Common.{◌≡◌, ◌≤◌, ◌<◌, ◌-◌, ◌++◌, map, take, drop, length, Some}
use Rattle.std.specs.List.{slice_get}
use Rattle.std.specs.Option.{option_to_list}
use Rattle.gno_num.specs.Floor.{floor_of}
use Rattle.series_model.specs.declared.measure.Measure.{Measure}
use Rattle.series_model.specs.Points.{starts_of}
use Rattle.series_model.specs.Tail.{last_onto}
use Rattle.regroup.specs.Tallies.{bucket_tally, tallies_behind}
use Rattle.regroup.proofs.tallies.tallies_behind.Given as goal

-- the tallies so far and those of what is left, and what is left begins behind the last bucket
abbrev pub invariant-loop-place : goal.invariant-loop-place
invariant-loop-place l =
    let g = l.granularity in record {
      inside : l.place ≤ length l.members;
      so_far : l.tallies.items ++ map (bucket_tally g (option_to_list l.before ++ l.members)) (starts_of g (map (λ m. m.at) (drop l.place l.members))) ≡ tallies_behind g l.before l.members;
      apart : (b m : Measure) → 0 < g → last_onto l.before (take l.place l.members) ≡ Some b → slice_get l.members l.place ≡ Some m → b.at < floor_of m.at g;
    }

abbrev pub decreases-loop-place : goal.decreases-loop-place
decreases-loop-place l = length l.members - l.place

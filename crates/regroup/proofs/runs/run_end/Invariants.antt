use Rattle.std.proofs.Common.{◌≤◌, ◌<◌, ◌-◌, ℕ, length, get_or}
use Rattle.series_model.specs.declared.measure.Measure.{Measure}
use Rattle.regroup.proofs.runs.run_end.Given as goal

-- the members so far are before the time
abbrev pub invariant-loop-place : goal.invariant-loop-place
invariant-loop-place l = record {
  after : l.fn.from ≤ l.place;
  inside : l.place ≤ length l.members;
  before : (k : ℕ) (d : Measure) → l.fn.from ≤ k → k < l.place → (get_or l.members k d).at < l.end;
}

abbrev pub decreases-loop-place : goal.decreases-loop-place
decreases-loop-place l = length l.members - l.place

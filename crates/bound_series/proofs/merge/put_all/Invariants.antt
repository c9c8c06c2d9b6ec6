use Rattle.std.proofs.Common.{◌≡◌, ◌≤◌, ◌<◌, ℕ, ◌++◌, take, drop, length, get_or}
use Rattle.std.specs.List.{All, fold}
use Rattle.series_model.specs.declared.measure.Measure.{Measure}
use Rattle.series_model.specs.Series.{put}
use Rattle.bound_series.proofs.merge.put_all.Given as goal

-- what was merged and what is left are all so far, and the merged is before each measure to come
abbrev pub invariant-loop-m : goal.invariant-loop-m
invariant-loop-m l = record {
  inside : l.place ≤ length l.old;
  so_far : l.merged.items ++ drop l.place l.old ≡ fold put l.old (take l.m-index l.new);
  before : (k : ℕ) (d : Measure) → l.m-index ≤ k → k < length l.new → All (λ x. x.at < (get_or l.new k d).at) l.merged.items;
}

use Rattle.std.proofs.Common.{◌≡◌, ◌++◌, ℕ, List, Option, map, take}
use Rattle.series_model.specs.declared.measure.Measure.{Measure}
use Rattle.regroup.specs.Work.{Gives, lists_for}
use Rattle.regroup.proofs.work.add_points.Given as goal

-- the points of the kinds so far
abbrev pub invariant-loop-kind : goal.invariant-loop-kind
invariant-loop-kind l =
    (granularity : ℕ) (members : List Measure) (from : Option ℕ) → Gives granularity members from l.tallies
    → map (λ v. v.items) l.points.items ≡ map (λ v. v.items) l.fn.points.items ++ lists_for (take l.kind-index l.kinds) granularity members from

use Rattle.std.proofs.Common.{◌≡◌, map, take}
use Rattle.series_model.specs.Tail.{members_of}
use Rattle.regroup.specs.Work.{lists_of}
use Rattle.regroup.proofs.work.points_of.Given as goal

-- the points of the definitions so far
abbrev pub invariant-loop-definition : goal.invariant-loop-definition
invariant-loop-definition l =
    map (λ v. v.items) l.points.items ≡ lists_of l.kinds (members_of l.raw) l.fn.from (take l.definition-index l.definitions)

use Rattle.std.proofs.Common.{◌≡◌, ◌+◌, ◌<◌, ltb, true, false, arith, rules}
use Rattle.std.specs.List.Sorted.{IsPartitionPoint}
use Rattle.std.proofs.lemmas.Bool.{ltb-true, ltb-false}
use Rattle.std.proofs.lemmas.List.{get_or-take, get_or-drop, length-take, length-drop}
use Rattle.std.proofs.lemmas.List.Sorted.{IsPartitionPoint-from_clause, IsPartitionedBy-ltb}
use Rattle.series_model.specs.declared.point.Point.{Point}
use Rattle.split_update.proofs.Cutting.{never_falling}
use Rattle.split_update.proofs.cut.count_before.Goals as goal

parted : (c : goal.After-partition_point) → IsPartitionPoint (λ (p : Point). ltb p.at c.args.time ≡ true) (λ (p : Point). ltb p.at c.args.time ≡ false) c.args.points.now c.partition_point.result
parted c =
    IsPartitionPoint-from_clause (λ (p : Point). ltb p.at c.args.time) _ _ c.partition_point.ensures.partitioned
    (IsPartitionedBy-ltb (λ (p : Point). p.at) c.args.points.now c.args.time (never_falling c.args.points.now c.requires))
    (λ a r q k. search rules)

pub returns-clause-before : goal.returns-clause-before
returns-clause-before c k d below =
    let points = c.args.points.now in
    let n = c.partition_point.result in
    let short : k < n = omega (arith, below, length-take n points) in
    rw (get_or-take n points k d short) (ltb-true _ _ ((parted c).0 k d (omega arith) short))

pub returns-clause-behind : goal.returns-clause-behind
returns-clause-behind c k d below =
    let points = c.args.points.now in
    let n = c.partition_point.result in
    rw get_or-drop (ltb-false _ _ ((parted c).1 (n + k) d (omega arith) (omega (arith, below, length-drop n points))))

use Rattle.std.proofs.Common.{◌≡◌, ◌+◌, ◌<◌, ltb, true, false, arith, rules}
use Rattle.std.specs.List.Sorted.{IsPartitionPoint}
use Rattle.std.proofs.lemmas.Bool.{ltb-true, ltb-false}
use Rattle.std.proofs.lemmas.List.{get_or-take, get_or-drop, length-take, length-drop}
use Rattle.std.proofs.lemmas.List.Sorted.{IsPartitionPoint-from_clause, IsPartitionedBy-ltb}
use Rattle.series_model.specs.declared.metric.MetricId.{MetricId}
use Rattle.shelf_records.proofs.Metrics.{ids_never_fall}
use Rattle.shelf_records.proofs.book.count_before.Goals as goal

parted : (c : goal.After-partition_point) → IsPartitionPoint (λ (x : MetricId). ltb x.0 c.args.id.0 ≡ true) (λ (x : MetricId). ltb x.0 c.args.id.0 ≡ false) c.args.ids.now c.partition_point.result
parted c =
    IsPartitionPoint-from_clause (λ (x : MetricId). ltb x.0 c.args.id.0) _ _ c.partition_point.ensures.partitioned
    (IsPartitionedBy-ltb (λ (x : MetricId). x.0) c.args.ids.now c.args.id.0 (ids_never_fall c.args.ids.now c.requires))
    (λ a r q k. search rules)

pub returns-clause-before : goal.returns-clause-before
returns-clause-before c k d below =
    let ids = c.args.ids.now in
    let n = c.partition_point.result in
    let short : k < n = omega (arith, below, length-take n ids) in
    rw (get_or-take n ids k d short) (ltb-true _ _ ((parted c).0 k d (omega arith) short))

pub returns-clause-behind : goal.returns-clause-behind
returns-clause-behind c k d below =
    let ids = c.args.ids.now in
    let n = c.partition_point.result in
    rw get_or-drop (ltb-false _ _ ((parted c).1 (n + k) d (omega arith) (omega (arith, below, length-drop n ids))))

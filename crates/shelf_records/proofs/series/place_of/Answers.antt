use Rattle.std.proofs.Common.{◌≡◌, ℕ, ◌+◌, ◌<◌, ltb, true, false, arith, rules}
use Rattle.std.specs.List.Sorted.{IsPartitionPoint}
use Rattle.std.proofs.lemmas.Bool.{ltb-true, ltb-false}
use Rattle.std.proofs.lemmas.List.{get_or-take, get_or-drop, length-take, length-drop}
use Rattle.std.proofs.lemmas.List.Sorted.{IsPartitionPoint-from_clause, IsPartitionedBy-ltb}
use Rattle.shelf_records.proofs.Keys.{numbers_never_fall}
use Rattle.shelf_records.proofs.series.place_of.Goals as goal

parted : (c : goal.After-partition_point) → IsPartitionPoint (λ (k : ℕ). ltb k c.args.key ≡ true) (λ (k : ℕ). ltb k c.args.key ≡ false) c.args.keys.now c.partition_point.result
parted c =
    IsPartitionPoint-from_clause (λ (k : ℕ). ltb k c.args.key) _ _ c.partition_point.ensures.partitioned
    (IsPartitionedBy-ltb (λ (k : ℕ). k) c.args.keys.now c.args.key (numbers_never_fall c.args.keys.now c.requires))
    (λ a r q k. search rules)

pub returns-clause-before : goal.returns-clause-before
returns-clause-before c k d below =
    let keys = c.args.keys.now in
    let n = c.partition_point.result in
    let short : k < n = omega (arith, below, length-take n keys) in
    rw (get_or-take n keys k d short) (ltb-true _ _ ((parted c).0 k d (omega arith) short))

pub returns-clause-behind : goal.returns-clause-behind
returns-clause-behind c k d below =
    let keys = c.args.keys.now in
    let n = c.partition_point.result in
    rw get_or-drop (ltb-false _ _ ((parted c).1 (n + k) d (omega arith) (omega (arith, below, length-drop n keys))))

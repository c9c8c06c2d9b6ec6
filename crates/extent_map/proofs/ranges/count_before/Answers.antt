use Rattle.std.proofs.Common.{◌≡◌, ◌+◌, ◌-◌, ◌<◌, ℕ, ltb, true, false, arith, rules}
use Rattle.std.specs.List.Sorted.{IsPartitionPoint}
use Rattle.std.proofs.lemmas.Bool.{ltb-true, ltb-false}
use Rattle.std.proofs.lemmas.List.{get_or-take, get_or-drop, length-take, length-drop}
use Rattle.std.proofs.lemmas.List.Sorted.{IsPartitionPoint-from_clause}
use Rattle.extent_map.proofs.RangeLemmas.{ends_parted}
use Rattle.extent_map.proofs.ranges.count_before.Goals as goal

parted : (c : goal.After-partition_point) → IsPartitionPoint (λ (r : ℕ × ℕ). ltb r.1 (c.args.place - r.0) ≡ true) (λ (r : ℕ × ℕ). ltb r.1 (c.args.place - r.0) ≡ false) c.args.free.now c.partition_point.result
parted c =
    IsPartitionPoint-from_clause (λ (r : ℕ × ℕ). ltb r.1 (c.args.place - r.0)) _ _ c.partition_point.ensures.partitioned
    (ends_parted c.args.place c.args.free.now c.requires)
    (λ a r q k. search rules)

pub returns-clause-before : goal.returns-clause-before
returns-clause-before c k d below =
    let free = c.args.free.now in
    let n = c.partition_point.result in
    let short : k < n = omega (arith, below, length-take n free) in
    rw (get_or-take n free k d short) (omega (arith, ltb-true _ _ ((parted c).0 k d (omega arith) short)))

pub returns-clause-behind : goal.returns-clause-behind
returns-clause-behind c k d below =
    let free = c.args.free.now in
    let n = c.partition_point.result in
    rw get_or-drop (omega (arith, ltb-false _ _ ((parted c).1 (n + k) d (omega arith) (omega (arith, below, length-drop n free)))))

use Rattle.std.proofs.Common.{◌≡◌, ◌≤◌, eqb, length, Some, arith, rules}
use Rattle.std.specs.List.{position}
use Rattle.std.proofs.Math.Nat.{mul-le-mul_left}
use Rattle.std.proofs.lemmas.List.Quantifiers.{position-Some}
use Rattle.archive_policy.specs.declared.kind.Kind.{Kind}
use Rattle.archive_policy.specs.Kinds.{kind_index}
use Rattle.shelf_records.proofs.Places.{few_kinds}
use Rattle.shelf_records.proofs.filed.place_in.Goals as goal

pub overflow_mul-result : goal.overflow_mul-result
overflow_mul-result c =
    let few : length c.kinds-kinds.result.now ≤ 16 = few_kinds c.kinds-kinds.result.now c.kinds-kinds.ensures.valid.in_table_order in
    omega (arith, few, mul-le-mul_left c.from-definition.result few)

pub overflow_add-result : goal.overflow_add-result
overflow_add-result c =
    let few : length c.kinds-kinds.result.now ≤ 16 = few_kinds c.kinds-kinds.result.now c.kinds-kinds.ensures.valid.in_table_order in
    let is : position (λ (k : Kind). eqb (kind_index k) (kind_index c.args.kind)) c.kinds-kinds.result.now ≡ Some c.in_ok-place.place = search rules in
    let below = position-Some (λ (k : Kind). eqb (kind_index k) (kind_index c.args.kind)) c.kinds-kinds.result.now c.in_ok-place.place c.args.kind is in
    omega (arith, few, below.0, mul-le-mul_left c.from-definition.result few)

use Rattle.std.proofs.Common.{◌≡◌, ◌∙◌, List, sym, subst, ap, map, take_all, arith}
use Rattle.std.specs.List.{filter}
use Rattle.std.specs.List.Sorted.{IsStrictlyIncreasing}
use Rattle.archive_policy.specs.declared.kind.Kind.{Kind}
use Rattle.archive_policy.specs.Kinds.{all_kinds, kind_index}
use Rattle.archive_policy.proofs.KindLemmas.{kept_in_order}
use Rattle.gno_codec.specs.PolicyReading.{has_bit, kinds_with}
use Rattle.gno_codec.proofs.KindBits.{with_bit, without_bit}
use Rattle.gno_codec.proofs.policy.kinds_with.Goals as goal
use Rattle.gno_codec.proofs.policy.kinds_with.Goals.{then-has_bit+in_ok-push, else-has_bit}

pub loop-place-preserved : goal.loop-place-preserved
loop-place-preserved c =
    let place = c.loop-place.place in
    elim c.if-has_bit.branch [
      | then-has_bit+in_ok-push w ↦
          rw w.kinds-is (with_bit c.args.bits place c.loop-place.kinds.items _ w.kind_of_place.result c.loop-place-test.true w.kind_of_place.ensures (sym c.has_bit.ensures ∙ w.if-has_bit.true) c.loop-place.invariant w.in_ok-push.ensures.items)
      | else-has_bit w ↦
          rw w.kinds-is (without_bit c.args.bits place c.loop-place.kinds.items c.loop-place-test.true (sym c.has_bit.ensures ∙ w.if-has_bit.false) c.loop-place.invariant)
    ]

pub returns-clause-value : goal.returns-clause-value
returns-clause-value c =
    c.loop-place.invariant ∙ ap (λ (ks : List Kind). filter (λ kind. has_bit c.args.bits (kind_index kind)) ks) (take_all c.loop-place.place all_kinds (omega (arith, c.loop-place-test.false)))

pub returns-clause-in_order : goal.returns-clause-in_order
returns-clause-in_order c =
    let same : c.loop-place.kinds.items ≡ kinds_with c.args.bits =
    c.loop-place.invariant ∙ ap (λ (ks : List Kind). filter (λ kind. has_bit c.args.bits (kind_index kind)) ks) (take_all c.loop-place.place all_kinds (omega (arith, c.loop-place-test.false))) in
    subst (λ (ks : List Kind). IsStrictlyIncreasing (map kind_index ks)) (sym same) (kept_in_order (λ kind. has_bit c.args.bits (kind_index kind)))

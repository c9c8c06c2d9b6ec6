use Rattle.std.proofs.Common.{◌≡◌, Some, sym, ap, ◌∙◌, arith}
use Rattle.archive_policy.specs.Asked.{granularity_of, leaves_rest, lesser}
use Rattle.archive_policy.proofs.AskedLemmas.{least_more, least_same}
use Rattle.archive_policy.proofs.first_fault.not_dividing.Goals.{then-leaves_rest, else-leaves_rest}
use Rattle.archive_policy.proofs.first_fault.not_dividing.Goals as goal

pub loop-w-preserved : goal.loop-w-preserved
loop-w-preserved c =
    let w = c.w-item.result in
    let g = c.granularity_of-granularity.ensures in
    let p = leaves_rest c.args.coarse in
    let tested : p (granularity_of w) ≡ c.leaves_rest.result = sym (c.leaves_rest.ensures ∙ ap p g) in
    elim c.if-leaves_rest.branch [
      | then-leaves_rest x ↦
          x.fine-is ∙ ap Some (x.lesser.ensures ∙ ap (λ n. lesser n c.loop-w.fine) g ∙ ap (lesser (granularity_of w)) c.loop-w.invariant)
          ∙ sym (least_more p c.args.wanted.now c.loop-w.w-index w (omega arith) c.w-item.is (tested ∙ x.if-leaves_rest.true))
      | else-leaves_rest x ↦
          x.fine-is ∙ c.loop-w.invariant
          ∙ sym (least_same p c.args.wanted.now c.loop-w.w-index w (omega arith) c.w-item.is (tested ∙ x.if-leaves_rest.false))
    ]

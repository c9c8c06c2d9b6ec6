use Rattle.std.proofs.Common.{max, sym, ap, ◌∙◌, arith}
use Rattle.archive_policy.specs.Asked.{granularity_of}
use Rattle.archive_policy.proofs.AskedLemmas.{largest_more}
use Rattle.archive_policy.proofs.first_fault.largest.Goals as goal

pub loop-w-preserved : goal.loop-w-preserved
loop-w-preserved c =
    let w = c.w-item.result in
    c.max-coarse.ensures ∙ ap (λ g. max g c.loop-w.coarse) c.granularity_of.ensures ∙ ap (max (granularity_of w)) c.loop-w.invariant
    ∙ sym (largest_more c.args.wanted.now c.loop-w.w-index w (omega arith) c.w-item.is)

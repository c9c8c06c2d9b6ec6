use Rattle.std.proofs.Common.{ap, ◌∙◌, sym, arith, Some}
use Rattle.bound_series.specs.Turn.{earlier}
use Rattle.bound_series.proofs.Earliest.{earliest-more}
use Rattle.bound_series.proofs.settle.earliest_of.Goals as goal

pub loop-m-preserved : goal.loop-m-preserved
loop-m-preserved c =
    c.earlier_of-first.ensures ∙ ap (λ o. earlier o (Some c.m-item.result.at)) c.loop-m.invariant
    ∙ sym (earliest-more c.args.measures.now c.loop-m.m-index c.m-item.result (omega arith) c.m-item.is)

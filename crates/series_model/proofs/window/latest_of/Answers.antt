use Rattle.std.proofs.Common.{Some, sym, ap, ◌∙◌, arith}
use Rattle.series_model.specs.Accepted.{later}
use Rattle.series_model.proofs.Latest.{latest-more}
use Rattle.series_model.proofs.window.latest_of.Goals as goal

pub loop-m-preserved : goal.loop-m-preserved
loop-m-preserved c =
    let m = c.m-item.result in
    ap Some (c.later_of.ensures ∙ ap (later m.at) c.loop-m.invariant) ∙ sym (latest-more c.args.measures.now c.loop-m.m-index m (omega arith) c.m-item.is)

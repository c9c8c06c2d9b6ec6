use Rattle.std.proofs.Common.{arith}
use Rattle.control_docs.proofs.AppendLemmas.{appended_item}
use Rattle.control_docs.specs.Texts.{named_id_text}
use Rattle.control_docs.proofs.texts.push_named_ids.Goals as goal

pub loop-metric-preserved : goal.loop-metric-preserved
loop-metric-preserved c =
    appended_item named_id_text c.in-Some.others.now c.loop-metric.metric-index c.metric-item.result _ _ _ _ (omega arith) c.metric-item.is c.loop-metric.invariant c.in_ok-push.ensures.items c.in_ok-push_named_id-2.ensures

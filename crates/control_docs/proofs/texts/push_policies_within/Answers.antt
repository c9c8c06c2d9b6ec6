use Rattle.std.proofs.Common.{arith}
use Rattle.control_docs.proofs.AppendLemmas.{appended_item}
use Rattle.control_docs.specs.Texts.{policy_text}
use Rattle.control_docs.proofs.texts.push_policies_within.Goals as goal

pub loop-policy-preserved : goal.loop-policy-preserved
loop-policy-preserved c =
    appended_item policy_text c.in-Some.others.now c.loop-policy.policy-index c.policy-item.result _ _ _ _ (omega arith) c.policy-item.is c.loop-policy.invariant c.in_ok-push.ensures.items c.in_ok-push_policy-2.ensures

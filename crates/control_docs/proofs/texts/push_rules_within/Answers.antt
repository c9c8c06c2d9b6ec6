use Rattle.std.proofs.Common.{arith}
use Rattle.control_docs.proofs.AppendLemmas.{appended_item}
use Rattle.control_docs.specs.Texts.{rule_text}
use Rattle.control_docs.proofs.texts.push_rules_within.Goals as goal

pub loop-rule-preserved : goal.loop-rule-preserved
loop-rule-preserved c =
    appended_item rule_text c.in-Some.others.now c.loop-rule.rule-index c.rule-item.result _ _ _ _ (omega arith) c.rule-item.is c.loop-rule.invariant c.in_ok-push.ensures.items c.in_ok-push_rule-2.ensures

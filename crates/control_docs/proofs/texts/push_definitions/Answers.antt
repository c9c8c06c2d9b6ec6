use Rattle.archive_policy.specs.Policies.{IsDefinition}
use Rattle.std.proofs.Common.{arith}
use Rattle.control_docs.proofs.AppendLemmas.{all_behind, appended_item}
use Rattle.control_docs.specs.Texts.{definition_text}
use Rattle.control_docs.proofs.texts.push_definitions.Goals as goal

pub loop-definition-preserved : goal.loop-definition-preserved
loop-definition-preserved c =
    appended_item definition_text c.in-Some.others.now c.loop-definition.definition-index c.definition-item.result _ _ _ _ (omega arith) c.definition-item.is c.loop-definition.invariant c.in_ok-push.ensures.items c.in_ok-push_definition-2.ensures

pub push_definition-requires-in-loop-definition : goal.push_definition-requires-in-loop-definition
push_definition-requires-in-loop-definition c =
    all_behind IsDefinition c.args.definitions.now c.in-Some.others.now c.in-Some.first.now c.loop-definition.definition-index c.definition-item.result c.in-Some.ensures.cases.0 c.requires (omega arith) c.definition-item.is

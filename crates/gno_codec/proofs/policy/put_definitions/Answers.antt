use Rattle.gno_codec.specs.Policy.{definition_bytes}
use Rattle.gno_codec.proofs.Writes.{one_more_item}
use Rattle.gno_codec.proofs.policy.put_definitions.Goals as goal

pub loop-definition-preserved : goal.loop-definition-preserved
loop-definition-preserved c =
    one_more_item definition_bytes _ _ _ c.args.definitions.now c.loop-definition.definition-index c.definition-item.result c.loop-definition-test.true c.definition-item.is c.loop-definition.invariant c.in_ok-put_definition.ensures

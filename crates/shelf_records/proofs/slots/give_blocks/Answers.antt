use Rattle.std.proofs.Common.{arith}
use Rattle.shelf_records.proofs.Taking.{all_blocks_given, next_block}
use Rattle.shelf_records.proofs.slots.give_blocks.Goals as goal

pub give_slot-requires-clause-held : goal.give_slot-requires-clause-held
give_slot-requires-clause-held c =
    (_, next_block c.requires.held.0 c.args.blocks.now c.loop-block.block-index (record { at = 0; len = 0 }) c.loop-block.used c.loop-block-test.true (c.loop-block.invariant.held c.requires.held.0 c.requires.held.1))

pub loop-block-preserved : goal.loop-block-preserved
loop-block-preserved c =
    record {
      held = λ slots held. c.give_slot.ensures.held _ (next_block slots c.args.blocks.now c.loop-block.block-index (record { at = 0; len = 0 }) c.loop-block.used c.loop-block-test.true (c.loop-block.invariant.held slots held));
      spare = omega arith;
    }

pub returns-clause-held : goal.returns-clause-held
returns-clause-held c slots held =
    all_blocks_given slots c.args.blocks.now c.loop-block.block-index c.loop-block.used c.loop-block-test.false (c.loop-block.invariant.held slots held)

use Rattle.std.proofs.Common.{arith}
use Rattle.shelf_records.proofs.Taking.{all_given, next_given}
use Rattle.shelf_records.proofs.slots.give_slots.Goals as goal

pub give_slot-requires-clause-held : goal.give_slot-requires-clause-held
give_slot-requires-clause-held c =
    (_, next_given c.requires.held.0 c.args.places.now c.loop-at.at-index c.loop-at.used c.loop-at-test.true (c.loop-at.invariant.held c.requires.held.0 c.requires.held.1))

pub loop-at-preserved : goal.loop-at-preserved
loop-at-preserved c =
    record {
      held = λ slots held. c.give_slot.ensures.held _ (next_given slots c.args.places.now c.loop-at.at-index c.loop-at.used c.loop-at-test.true (c.loop-at.invariant.held slots held));
      spare = omega arith;
    }

pub returns-clause-held : goal.returns-clause-held
returns-clause-held c slots held =
    all_given slots c.args.places.now c.loop-at.at-index c.loop-at.used c.loop-at-test.false (c.loop-at.invariant.held slots held)

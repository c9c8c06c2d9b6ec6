use Rattle.shelf_records.proofs.Holding.{given_held, held_used}
use Rattle.shelf_records.proofs.slots.give_slot.Goals as goal

pub give-requires-clause-used : goal.give-requires-clause-used
give-requires-clause-used c place lies =
    held_used c.args.at c.requires.held.0 c.args.used.now c.requires.held.1 place lies

pub returns-clause-held : goal.returns-clause-held
returns-clause-held c slots held =
    given_held c.args.at slots c.args.used.now c.give.new.self held c.give.ensures.used c.give.ensures.form c.give.ensures.end

use Rattle.std.proofs.Common.{◌++◌, Option, subst}
use Rattle.std.specs.Option.{option_to_list}
use Rattle.gno_codec.specs.declared.item.Block.{Block}
use Rattle.shelf_records.specs.Book.{places_of}
use Rattle.shelf_records.specs.Slots.{AreHeld}
use Rattle.shelf_records.proofs.book.give_block.Goals as goal

pub returns-in-Some-clause-held : goal.returns-in-Some-clause-held
returns-in-Some-clause-held c slots held =
    c.give_slot.ensures.held slots (subst (λ (o : Option Block). AreHeld (places_of (option_to_list o) ++ slots) c.args.used.now) c.in-Some.is held)

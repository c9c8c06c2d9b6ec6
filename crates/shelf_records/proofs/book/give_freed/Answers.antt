use Rattle.std.proofs.Common.{◌++◌, sym, subst, List}
use Rattle.gno_codec.specs.declared.item.Block.{Block}
use Rattle.shelf_records.specs.Book.{changed_blocks, places_of}
use Rattle.shelf_records.specs.Slots.{AreHeld}
use Rattle.shelf_records.proofs.Metrics.{freed_parts}
use Rattle.shelf_records.proofs.book.give_freed.Goals as goal

pub give_changed-requires-clause-held : goal.give_changed-requires-clause-held
give_changed-requires-clause-held c =
    let m = c.args.filed.now in
    let slots = c.requires.held.0 in
    let rest = places_of (changed_blocks m c.args.changes.now) ++ slots in
    (slots, c.give_blocks.ensures.held rest (subst (λ (bs : List Block). AreHeld (places_of bs ++ rest) c.args.used.now) (sym c.chunks.ensures) (freed_parts m c.args.changes.now slots c.args.used.now c.requires.held.1)))

pub returns : goal.returns
returns c slots held =
    let m = c.args.filed.now in
    let rest = places_of (changed_blocks m c.args.changes.now) ++ slots in
    c.give_changed.ensures slots (c.give_blocks.ensures.held rest (subst (λ (bs : List Block). AreHeld (places_of bs ++ rest) c.args.used.now) (sym c.chunks.ensures) (freed_parts m c.args.changes.now slots c.args.used.now held)))

use Rattle.std.proofs.Common.{◌++◌, List, sym, subst}
use Rattle.gno_codec.specs.declared.item.Block.{Block}
use Rattle.shelf_records.specs.Book.{blocks_of_kept, places_of}
use Rattle.shelf_records.specs.Slots.{AreHeld}
use Rattle.shelf_records.proofs.Metrics.{metric_parts}
use Rattle.shelf_records.proofs.book.give_metric.Goals as goal

pub give_kept-requires-clause-held : goal.give_kept-requires-clause-held
give_kept-requires-clause-held c =
    let m = c.args.filed.now in
    let slots = c.requires.held.0 in
    let rest = places_of (blocks_of_kept m.kept) ++ slots in
    (slots, c.give_blocks.ensures.held rest (subst (λ (bs : List Block). AreHeld (places_of bs ++ rest) c.args.used.now) (sym c.chunks.ensures) (metric_parts m slots c.args.used.now c.requires.held.1)))

pub returns : goal.returns
returns c slots held =
    let m = c.args.filed.now in
    let rest = places_of (blocks_of_kept m.kept) ++ slots in
    c.give_kept.ensures slots (c.give_blocks.ensures.held rest (subst (λ (bs : List Block). AreHeld (places_of bs ++ rest) c.args.used.now) (sym c.chunks.ensures) (metric_parts m slots c.args.used.now held)))

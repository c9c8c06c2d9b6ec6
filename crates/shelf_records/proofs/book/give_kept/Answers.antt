use Rattle.std.proofs.Common.{◌+◌, ◌++◌, drop, length, ap, length-append, arith}
use Rattle.shelf_records.specs.Book.{blocks_of_kept, places_of}
use Rattle.shelf_records.proofs.Metrics.{kept_given, next_kept, next_kept_held}
use Rattle.shelf_records.proofs.book.give_kept.Goals as goal

pub give_blocks-requires-clause-held : goal.give_blocks-requires-clause-held
give_blocks-requires-clause-held c =
    let kept = c.args.filed.now.kept in
    let i = c.loop-place.place in
    let slots = c.requires.held.0 in
    (places_of (blocks_of_kept (drop (i + 1) kept)) ++ slots, next_kept_held kept i c.series.result.now c.blocks-in-loop-place.result.now slots c.loop-place.used c.series.ensures c.blocks-in-loop-place.ensures (c.loop-place.invariant.held slots c.requires.held.1))

pub give_blocks-requires-clause-sure : goal.give_blocks-requires-clause-sure
give_blocks-requires-clause-sure c =
    let kept = c.args.filed.now.kept in
    let i = c.loop-place.place in
    let next = next_kept kept i c.series.result.now c.blocks-in-loop-place.result.now c.series.ensures c.blocks-in-loop-place.ensures in
    omega (arith, c.loop-place.invariant.spare, ap length next, length-append c.blocks-in-loop-place.result.now (blocks_of_kept (drop (i + 1) kept)))

pub loop-place-preserved : goal.loop-place-preserved
loop-place-preserved c =
    let kept = c.args.filed.now.kept in
    let i = c.loop-place.place in
    let next = next_kept kept i c.series.result.now c.blocks-in-loop-place.result.now c.series.ensures c.blocks-in-loop-place.ensures in
    record {
      held = λ slots held. c.give_blocks.ensures.held (places_of (blocks_of_kept (drop (i + 1) kept)) ++ slots) (next_kept_held kept i c.series.result.now c.blocks-in-loop-place.result.now slots c.loop-place.used c.series.ensures c.blocks-in-loop-place.ensures (c.loop-place.invariant.held slots held));
      spare = omega (arith, c.loop-place.invariant.spare, c.give_blocks.ensures.spare, ap length next, length-append c.blocks-in-loop-place.result.now (blocks_of_kept (drop (i + 1) kept)));
    }

pub returns : goal.returns
returns c slots held =
    kept_given c.args.filed.now.kept c.loop-place.place slots c.loop-place.used (omega arith) (c.loop-place.invariant.held slots held)

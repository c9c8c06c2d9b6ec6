use Rattle.std.proofs.Common.{◌+◌, ◌++◌, sym, subst, drop, Option, arith}
use Rattle.std.specs.Option.{option_to_list}
use Rattle.gno_codec.specs.declared.item.Block.{Block}
use Rattle.shelf_records.specs.Book.{changed_blocks, places_of}
use Rattle.shelf_records.specs.Slots.{AreHeld}
use Rattle.shelf_records.proofs.Metrics.{all_changed, next_change}
use Rattle.shelf_records.proofs.book.give_changed.Goals as goal

pub give_block-requires-clause-held : goal.give_block-requires-clause-held
give_block-requires-clause-held c =
    let m = c.args.filed.now in
    let changes = c.args.changes.now in
    let i = c.loop-change.change-index in
    let slots = c.requires.held.0 in
    let rest = places_of (changed_blocks m (drop (i + 1) changes)) ++ slots in
    (rest, subst (λ (o : Option Block). AreHeld (places_of (option_to_list o) ++ rest) c.loop-change.used) (sym c.block_of.ensures) (next_change m changes i c.change-item.result slots c.loop-change.used c.loop-change-test.true c.change-item.is (c.loop-change.invariant.held slots c.requires.held.1)))

pub loop-change-preserved : goal.loop-change-preserved
loop-change-preserved c =
    let m = c.args.filed.now in
    let changes = c.args.changes.now in
    let i = c.loop-change.change-index in
    record {
      held = λ slots held.
          let rest = places_of (changed_blocks m (drop (i + 1) changes)) ++ slots in
          c.give_block.ensures.held rest (subst (λ (o : Option Block). AreHeld (places_of (option_to_list o) ++ rest) c.loop-change.used) (sym c.block_of.ensures) (next_change m changes i c.change-item.result slots c.loop-change.used c.loop-change-test.true c.change-item.is (c.loop-change.invariant.held slots held)));
      spare = omega arith;
    }

pub returns : goal.returns
returns c slots held =
    all_changed c.args.filed.now c.args.changes.now c.loop-change.change-index slots c.loop-change.used c.loop-change-test.false (c.loop-change.invariant.held slots held)

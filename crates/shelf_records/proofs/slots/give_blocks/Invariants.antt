use Rattle.std.proofs.Common.{◌≤◌, ◌+◌, ◌++◌, ℕ, List, drop, map}
use Rattle.gno_codec.specs.declared.item.Block.{Block}
use Rattle.shelf_records.specs.Slots.{AreHeld}
use Rattle.shelf_records.proofs.slots.give_blocks.Given as goal

abbrev pub invariant-loop-block : goal.invariant-loop-block
invariant-loop-block l =
    record {
      held : (slots : List ℕ) → AreHeld (map (λ (b : Block). b.at) l.blocks ++ slots) l.fn.used → AreHeld (map (λ (b : Block). b.at) (drop l.block-index l.blocks) ++ slots) l.used;
      spare : l.fn.used.spare ≤ l.used.spare + l.block-index;
    }

use Rattle.std.proofs.Common.{◌++◌, ℕ, List, take}
use Rattle.shelf_records.specs.Book.{places_of}
use Rattle.shelf_records.specs.Slots.{AreHeld}
use Rattle.shelf_records.proofs.follow.claim_blocks.Given as goal

abbrev pub invariant-loop-block : goal.invariant-loop-block
invariant-loop-block l = (slots : List ℕ) → AreHeld slots l.fn.used → AreHeld (places_of (take l.block-index l.blocks) ++ slots) l.used

use Rattle.std.proofs.Common.{◌≡◌, ◌++◌, List, take}
use Rattle.block_slots.specs.declared.slots.Piece.{Piece}
use Rattle.shelf_blocks.specs.Pieces.{AreSplitPieces}
use Rattle.shelf_blocks.proofs.pieces.add_split_pieces.Given as goal

abbrev pub invariant-loop-i : goal.invariant-loop-i
invariant-loop-i l = record {
  added : (more : List Piece) × (l.pieces.items ≡ l.fn.pieces.items ++ more) × AreSplitPieces l.fn.granularity (take l.i l.fn.splits) (take l.i l.fn.places) more l.stored.items;
}

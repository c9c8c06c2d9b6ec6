use Rattle.shelf_blocks.specs.Pieces.{AreCut}
use Rattle.shelf_blocks.proofs.pieces.raw_pieces.Given as goal

abbrev pub invariant-loop-i : goal.invariant-loop-i
invariant-loop-i l = AreCut l.fn.points l.fn.places l.i l.rest l.pieces.items

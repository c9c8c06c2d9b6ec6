use Rattle.std.proofs.Common.{◌≡◌, take, map}
use Rattle.shelf_blocks.specs.Pieces.{block_of}
use Rattle.split_store.proofs.turn.blocks_of.Given as goal

-- the blocks of the pieces so far
abbrev pub invariant-loop-piece : goal.invariant-loop-piece
invariant-loop-piece l = l.blocks.items ≡ map block_of (take l.piece-index l.pieces)

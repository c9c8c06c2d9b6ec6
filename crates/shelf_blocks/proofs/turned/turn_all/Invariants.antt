use Rattle.std.proofs.Common.{◌≡◌, ◌++◌, List, length, map, take, drop}
use Rattle.std.specs.List.{All, flat_map}
use Rattle.shelf_records.specs.Moves.{blocks_of_moves}
use Rattle.shelf_blocks.specs.Pieces.{IsPiece, block_of}
use Rattle.block_slots.specs.declared.slots.Piece.{Piece}
use Rattle.shelf_blocks.specs.Turns.{AreTurned, made_count}
use Rattle.shelf_blocks.proofs.turned.turn_all.Given as goal

abbrev pub invariant-loop-place : goal.invariant-loop-place
invariant-loop-place l = record {
  pieces : (more : List Piece) × (l.pieces.items ≡ l.fn.pieces.items ++ more) × (map (λ p. p.at) more ++ l.rest ≡ l.fn.places)
      × All IsPiece more × (flat_map blocks_of_moves (map (λ own. own.items) l.moves.items) ≡ map block_of more);
  left : length l.rest ≡ made_count (drop l.place l.fn.all);
  turned : AreTurned l.fn.filed l.pieces.items 0 (take l.place l.fn.all) l.series.items (map (λ own. own.items) l.moves.items);
}

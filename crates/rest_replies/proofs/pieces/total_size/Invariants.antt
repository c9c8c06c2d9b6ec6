use Rattle.std.proofs.Common.{◌≡◌, length, take}
use Rattle.rest_replies.specs.Pieces.{pieces_text}
use Rattle.rest_replies.proofs.pieces.total_size.Given as goal

abbrev pub invariant-loop-piece : goal.invariant-loop-piece
invariant-loop-piece l = l.size ≡ length (pieces_text (take l.piece-index l.pieces))

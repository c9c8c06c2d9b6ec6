use Rattle.std.proofs.Common.{◌≡◌, ◌+◌, ◌≤◌, ◌++◌, length, take, drop, vec_len, vec_capacity}
use Rattle.rest_replies.specs.Pieces.{pieces_text}
use Rattle.rest_replies.proofs.pieces.append_all.Given as goal

-- what was appended so far, and room for what is left
abbrev pub invariant-loop-piece : goal.invariant-loop-piece
invariant-loop-piece l = record {
  items : l.out.items ≡ l.initial.out.items ++ pieces_text (take l.piece-index l.pieces);
  room : vec_len l.out + length (pieces_text (drop l.piece-index l.pieces)) ≤ vec_capacity l.out;
}

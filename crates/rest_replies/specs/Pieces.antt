-- Texts made of pieces.
use Rattle.std.specs.Prelude.{ℕ, List}
use Rattle.std.specs.List.{flat_map}
use Rattle.std.specs.Borrow.{Bor}

-- the pieces, one behind the other
abbrev pub pieces_text : List (Bor (List ℕ)) → List ℕ
pieces_text pieces = flat_map (λ piece. piece.now) pieces

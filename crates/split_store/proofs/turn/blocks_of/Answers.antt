use Rattle.std.proofs.Common.{◌≡◌, length, sym, subst, arith, rules}
use Rattle.shelf_blocks.specs.Pieces.{IsPiece}
use Rattle.split_store.proofs.turn.blocks_of.Goals as goal

pub overflow_cast-len : goal.overflow_cast-len
overflow_cast-len c =
    let p = c.piece-item.result in
    let fits = (subst IsPiece (sym c.piece-item.is) (c.requires c.loop-piece.piece-index p c.loop-piece-test.true)).fits in
    let len : c.len.result ≡ length p.bytes.items = search rules in
    omega (arith, fits, len)

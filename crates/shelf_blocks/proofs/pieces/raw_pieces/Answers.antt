use Rattle.std.proofs.Common.{rules, ◌≡◌, ◌+◌, ◌++◌, ◌∷◌, [], List, take, sym, ap, subst, ◌∙◌, arith}
use Rattle.std.proofs.lemmas.List.{get_or_default}
use Rattle.gno_codec.specs.Blocks.{IsChunk, IsRising, raw_bytes}
use Rattle.block_slots.specs.declared.slots.Piece.{Piece}
use Rattle.shelf_blocks.specs.Pieces.{AreCut, IsChunkPiece}
use Rattle.shelf_blocks.proofs.PieceLemmas.{chunk_rising, cut_all, cut_more, cut_nothing}
use Rattle.shelf_blocks.proofs.pieces.raw_pieces.Goals as goal

pub loop-i-init : goal.loop-i-init
loop-i-init c =
    subst (λ (ps : List Piece). AreCut c.args.points.now c.args.places.now 0 c.args.points.now ps) (sym c.in_ok-pieces.ensures.items) (cut_nothing c.args.points.now c.args.places.now c.requires.rising c.requires.enough)

pub chunk_piece-requires : goal.chunk_piece-requires
chunk_piece-requires c =
    subst IsRising (sym c.split_at.ensures.front)
    (chunk_rising c.args.points.now c.args.places.now c.loop-i.i c.min.result c.loop-i.rest.now c.loop-i.pieces.items c.loop-i-test.true c.min.ensures c.loop-i.invariant)

pub loop-i-preserved : goal.loop-i-preserved
loop-i-preserved c =
    let points = c.args.points.now in
    let places = c.args.places.now in
    let i = c.loop-i.i in
    let rest = c.loop-i.rest.now in
    let n = c.min.result in
    let p = c.in_ok-piece.piece in
    let at = c.in_ok-piece.ensures.at ∙ get_or_default places i 0 p.at c.loop-i-test.true in
    let front = c.split_at.ensures.front in
    let is : IsChunkPiece p (take n rest) = record {
      is = subst IsChunk front c.in_ok-piece.ensures.is;
      bytes = c.in_ok-piece.ensures.bytes ∙ ap raw_bytes front;
      piece = record { fits = c.in_ok-piece.ensures.fits; some = c.in_ok-piece.ensures.some };
    } in
    let pushed : c.push.new.self.items ≡ c.loop-i.pieces.items ++ p ∷ [] = search rules in
    subst (λ ps. AreCut points places (i + 1) c.split_at.result.1.now ps) (sym pushed)
    (subst (λ r. AreCut points places (i + 1) r (c.loop-i.pieces.items ++ p ∷ [])) (sym c.split_at.ensures.back)
    (cut_more points places i n rest c.loop-i.pieces.items p c.loop-i-test.true c.min.ensures at is c.loop-i.invariant))

pub returns : goal.returns
returns c = cut_all c.args.points.now c.args.places.now c.loop-i.i c.loop-i.rest.now c.loop-i.pieces.items (let end = c.loop-i-test.false in omega (arith, end)) c.loop-i.invariant

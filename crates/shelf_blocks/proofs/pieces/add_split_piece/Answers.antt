use Rattle.std.proofs.Common.{rules, ◌≡◌, ◌++◌, ◌∷◌, [], length}
use Rattle.shelf_blocks.proofs.PieceLemmas.{piece_stored}
use Rattle.shelf_blocks.proofs.pieces.add_split_piece.Goals as goal

pub returns : goal.returns
returns c =
    let p = c.in_ok-piece.piece in
    let given = c.in_ok-piece.ensures in
    let long : c.len.result ≡ length p.bytes.items = search rules in
    let pushed : c.push.new.self.items ≡ c.args.pieces.now.items ++ p ∷ [] = search rules in
    record { added = (p, pushed, (given.at, (record { is = given.is; bytes = given.bytes; piece = record { fits = given.fits; some = given.some } }, piece_stored c.args.split.now p c.args.at c.len.result given.at long))) }

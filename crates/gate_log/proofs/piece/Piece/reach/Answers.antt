use Rattle.std.proofs.Common.{◌≡◌, ◌≢◌, ◌+◌, ◌-◌, ◌≤◌, ◌∙◌, length, min, rules, arith, vec_len}
use Rattle.gate_log.proofs.Moments.{on_ok}
use Rattle.gate_log.proofs.PieceLemmas.{enough_later, reach_later, is_piece, length_of_items, on_ok_then}
use Rattle.gate_log.proofs.piece.Piece.reach.Goals as goal

pub returns-clause-piece : goal.returns-clause-piece
returns-clause-piece g c =
    let old = c.args.self.now in
    let n = vec_len c.truncate.new.self in
    let cut : vec_len c.truncate.new.self ≡ min (vec_len old.bytes) (c.args.size - c.args.gate) = search rules in
    let len_is : n ≡ min (length old.bytes.items) (c.args.size - c.args.gate) = omega (arith, cut, length_of_items old.bytes) in
    let not_all : old.at + length old.bytes.items ≢ c.args.size = search rules in
    let inside = c.requires.inside in
    let fits : c.args.gate + n ≤ c.args.size = omega (arith, len_is, inside) in
    on_ok_then c.read_body.result (is_piece _ c.args.size c.args.gate c.read_body.new.body n (length_of_items c.read_body.new.body ∙ c.read_body.ensures.len) fits
    (enough_later old.at (length old.bytes.items) n c.args.gate c.args.size c.requires.piece.enough not_all len_is inside)) c.read_body.ensures.bytes

pub returns-clause-reached : goal.returns-clause-reached
returns-clause-reached g c =
    let old = c.args.self.now in
    let n = vec_len c.truncate.new.self in
    let cut : vec_len c.truncate.new.self ≡ min (vec_len old.bytes) (c.args.size - c.args.gate) = search rules in
    let len_is : n ≡ min (length old.bytes.items) (c.args.size - c.args.gate) = omega (arith, cut, length_of_items old.bytes) in
    let not_all : old.at + length old.bytes.items ≢ c.args.size = search rules in
    let len : length c.read_body.new.body.items ≡ n = length_of_items c.read_body.new.body ∙ c.read_body.ensures.len in
    on_ok c.read_body.result (reach_later c.args.gate (length c.read_body.new.body.items) c.args.size
    (enough_later old.at (length old.bytes.items) (length c.read_body.new.body.items) c.args.gate c.args.size c.requires.piece.enough not_all (len ∙ len_is) c.requires.inside))

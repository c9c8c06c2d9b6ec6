use Rattle.std.proofs.Common.{◌≡◌, ◌∙◌, take, drop, min, IfSome, rules, arith, vec_len}
use Rattle.gate_log.proofs.PieceLemmas.{enough_first, is_piece, length_of_items}
use Rattle.gate_log.proofs.piece.first_piece.Goals as goal

pub returns-clause-piece : goal.returns-clause-piece
returns-clause-piece g c =
    let n = vec_len c.in_ok-bytes.bytes in
    let long : n ≡ min c.args.size c.args.most = search rules in
    let read : IfSome (g.D.Disk.told c.args.disk.now) (λ bytes. c.read_body.new.body.items ≡ take (vec_len c.in_ok-bytes.bytes) (drop 0 bytes)) = search rules in
    is_piece _ c.args.size 0 c.read_body.new.body n (length_of_items c.read_body.new.body ∙ c.read_body.ensures.len) (omega (arith, long)) (enough_first n c.args.size c.args.most long c.requires.head) read

use Rattle.std.proofs.lemmas.Result.{err_from_is_err_and}
use Rattle.gate_log.proofs.PieceLemmas.{never_cut}
use Rattle.gate_log.proofs.first.first_place.Goals as goal

pub returns-in_err-piece-clause-cut_short : goal.returns-in_err-piece-clause-cut_short
returns-in_err-piece-clause-cut_short g c =
    let p = err_from_is_err_and c.from_residual-in_err-piece.result c.from_residual-in_err-piece.ensures.1 in
    rw (p.1, p.2) (never_cut _ _ c.in_err-piece.ensures.not_cut)

pub returns-in_err-piece-clause-came : goal.returns-in_err-piece-clause-came
returns-in_err-piece-clause-came g c = g.met.D.Disk.came_then 1 0 _ _ _ c.sync_all.ensures.came c.first_piece.ensures.came

pub returns-clause-came : goal.returns-clause-came
returns-clause-came g c =
    g.met.D.Disk.came_then 1 0 _ _ _ (g.met.D.Disk.came_then 1 0 _ _ _ c.sync_all.ensures.came c.first_piece.ensures.came) c.read_head.ensures.came

use Rattle.gno_disk.specs.Disk.{LooseCut}
use Rattle.gate_log.proofs.Bytes.{LooseCut-itself}
use Rattle.gate_log.proofs.Moments.{change_leaves, sync_leaves}
use Rattle.gate_log.proofs.device.cut_through.Goals as goal

pub returns-in_err-cut-clause-any_moment : goal.returns-in_err-cut-clause-any_moment
returns-in_err-cut-clause-any_moment g c =
    change_leaves g.D.Disk g.met.D.Disk.only_now _ _ (LooseCut c.args.to) c.requires.durable (LooseCut-itself _) c.cut.ensures.crash c.cut.ensures.time

pub returns-clause-any_moment : goal.returns-clause-any_moment
returns-clause-any_moment g c =
    sync_leaves g.D.Disk g.met.D.Disk.only_now _ _ _ (LooseCut c.args.to) c.requires.durable (LooseCut-itself _) c.cut.ensures.crash c.cut.ensures.time c.sync.ensures.crash c.sync.ensures.time

pub returns-clause-came : goal.returns-clause-came
returns-clause-came g c =
    g.met.D.Disk.came_then 1 1 _ _ _ c.cut.ensures.came c.sync.ensures.came

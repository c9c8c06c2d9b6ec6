use Rattle.gate_log.proofs.Moments.{untouched_call}
use Rattle.gate_log.proofs.device.sync_all.Goals as goal

pub returns-clause-untouched : goal.returns-clause-untouched
returns-clause-untouched g c = untouched_call g.D.Disk g.met.D.Disk.only_now _ _ c.sync.ensures.told c.sync.ensures.size c.sync.ensures.crash c.sync.ensures.time

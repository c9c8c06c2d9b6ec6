use Rattle.gate_log.proofs.Moments.{untouched_call}
use Rattle.gate_log.proofs.device.read_bytes.Goals as goal

pub returns-clause-untouched : goal.returns-clause-untouched
returns-clause-untouched g c = untouched_call g.D.Disk g.met.D.Disk.only_now _ _ c.read.ensures.told c.read.ensures.size c.read.ensures.crash c.read.ensures.time

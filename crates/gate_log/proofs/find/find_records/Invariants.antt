use Rattle.std.proofs.Common.{◌-◌}
use Rattle.gate_log.proofs.FindLemmas.{IsScanned}
use Rattle.gate_log.proofs.find.find_records.Given as goal

abbrev pub invariant-records : goal.invariant-records
invariant-records g l = IsScanned g.D.Disk l.fn.disk l.disk l.places.items l.piece l.end l.size

abbrev pub decreases-records : goal.decreases-records
decreases-records g l = l.size - l.end

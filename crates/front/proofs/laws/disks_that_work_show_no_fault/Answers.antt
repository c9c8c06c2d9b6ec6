use Rattle.front.proofs.Unfailing.{failed_before, no_fault_seen}
use Rattle.front.proofs.laws.disks_that_work_show_no_fault.Goals as goal

pub returns-clause-before : goal.returns-clause-before
returns-clause-before g c = failed_before g.D.Disk

pub returns-clause-unseen : goal.returns-clause-unseen
returns-clause-unseen g c = no_fault_seen g.D.Disk

use Rattle.archive_policy.proofs.FaultLaws.{fault_first, fault_none}
use Rattle.archive_policy.proofs.laws.fault_is_first.Goals as goal

pub returns-clause-told : goal.returns-clause-told
returns-clause-told c = fault_first

pub returns-clause-none : goal.returns-clause-none
returns-clause-none c = fault_none

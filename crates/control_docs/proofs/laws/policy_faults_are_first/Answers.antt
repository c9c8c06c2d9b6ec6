use Rattle.control_docs.proofs.FaultLemmas.{faults_first, never_memory}
use Rattle.control_docs.proofs.laws.policy_faults_are_first.Goals as goal

pub returns : goal.returns
returns c = record { first = faults_first; never_memory = never_memory }

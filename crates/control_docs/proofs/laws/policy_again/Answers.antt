use Rattle.control_docs.proofs.AgainLemmas.{policy_back}
use Rattle.control_docs.proofs.laws.policy_again.Goals as goal

pub returns : goal.returns
returns c = policy_back

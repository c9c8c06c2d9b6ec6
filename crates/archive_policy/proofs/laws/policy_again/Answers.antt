use Rattle.archive_policy.proofs.PolicyAgain.{again_none, again_same}
use Rattle.archive_policy.proofs.laws.policy_again.Goals as goal

pub returns-clause-none : goal.returns-clause-none
returns-clause-none c = again_none

pub returns-clause-same : goal.returns-clause-same
returns-clause-same c = again_same

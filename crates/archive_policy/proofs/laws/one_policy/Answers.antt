use Rattle.archive_policy.proofs.PolicyAgain.{policy_once}
use Rattle.archive_policy.proofs.laws.one_policy.Goals as goal

pub returns : goal.returns
returns c = policy_once

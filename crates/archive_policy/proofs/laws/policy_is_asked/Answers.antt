use Rattle.archive_policy.proofs.PolicyProofs.{is_asked}
use Rattle.archive_policy.proofs.laws.policy_is_asked.Goals as goal

pub returns : goal.returns
returns c = is_asked

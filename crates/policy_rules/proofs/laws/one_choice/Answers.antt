use Rattle.policy_rules.proofs.BestSoFar.{chosen_once}
use Rattle.policy_rules.proofs.laws.one_choice.Goals as goal

pub returns : goal.returns
returns c = chosen_once

use Rattle.control_docs.proofs.AgainLemmas.{rule_back}
use Rattle.control_docs.proofs.laws.rule_again.Goals as goal

pub returns : goal.returns
returns c = rule_back

use Rattle.policy_rules.proofs.BestSoFar.{Best}
use Rattle.policy_rules.proofs.choice.choose.Given as goal

abbrev pub invariant-loop-i : goal.invariant-loop-i
invariant-loop-i l = Best l.rules l.name l.i l.chosen

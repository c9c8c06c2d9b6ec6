use Rattle.std.proofs.Common.{◌-◌, length}
use Rattle.policy_rules.proofs.LeftLemmas.{IsShared}
use Rattle.policy_rules.proofs.literals.left_of.Given as goal

abbrev pub invariant-loop-count : goal.invariant-loop-count
invariant-loop-count l = IsShared l.pattern l.name l.count

abbrev pub decreases-loop-count : goal.decreases-loop-count
decreases-loop-count l = length l.pattern - l.count

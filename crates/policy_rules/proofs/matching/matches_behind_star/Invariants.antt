use Rattle.std.proofs.Common.{◌↔◌, ◌+◌, ◌∷◌, length}
use Rattle.policy_rules.specs.Matching.{Matches}
use Rattle.policy_rules.proofs.matching.matches_behind_star.Given as goal

abbrev pub invariant-loop-behind : goal.invariant-loop-behind
invariant-loop-behind l = Matches (42 ∷ l.fn.pattern) l.fn.name ↔ Matches (42 ∷ l.after) l.unread

abbrev pub decreases-loop-behind : goal.decreases-loop-behind
decreases-loop-behind l = length l.after + length l.unread

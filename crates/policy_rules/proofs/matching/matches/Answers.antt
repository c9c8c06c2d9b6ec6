use Rattle.policy_rules.proofs.MatchLemmas.{both_ways_on, other_way, plain_star, plain_stuck, is_empty_iff, not_empty}
use Rattle.policy_rules.proofs.matching.matches.Goals as goal

pub returns-in-Some : goal.returns-in-Some
returns-in-Some c =
    both_ways_on _ _ _ c.matches_behind_star.ensures (other_way _ _ (plain_star c.args.pattern.now c.args.name.now _ _ c.in-Some.behind.now c.left_of.ensures.left c.in-Some.ensures.some))

pub returns-then-is_empty : goal.returns-then-is_empty
returns-then-is_empty c =
    let rest = c.left_of.result.0.now in
    let left = c.left_of.result.1.now in
    let none = (is_empty_iff rest c.is_empty.result c.is_empty.ensures).0 c.if-is_empty.true in
    let all = is_empty_iff left c.is_empty-then-is_empty.result c.is_empty-then-is_empty.ensures in
    let both = plain_stuck c.args.pattern.now c.args.name.now rest left c.left_of.ensures.left c.in-None.ensures.none in
    (λ t. both.1 (none, all.0 t), λ m. all.1 ((both.0 m).1))

pub returns-else-is_empty : goal.returns-else-is_empty
returns-else-is_empty c =
    let rest = c.left_of.result.0.now in
    let left = c.left_of.result.1.now in
    let some = not_empty rest c.is_empty.result c.is_empty.ensures c.if-is_empty.false in
    let both = plain_stuck c.args.pattern.now c.args.name.now rest left c.left_of.ensures.left c.in-None.ensures.none in
    (λ t. absurd (some ((is_empty_iff rest c.is_empty.result c.is_empty.ensures).0 t)), λ m. absurd (some ((both.0 m).0)))

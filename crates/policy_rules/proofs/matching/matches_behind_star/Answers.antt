use Rattle.policy_rules.proofs.MatchLemmas.{both_ways_on, other_way, next_star, at_end, one_less, is_empty_iff, not_empty}
use Rattle.policy_rules.proofs.matching.matches_behind_star.Goals as goal

pub loop-behind-preserved-in-Some : goal.loop-behind-preserved-in-Some
loop-behind-preserved-in-Some c =
    both_ways_on _ _ _ c.loop-behind.invariant (next_star c.loop-behind.after.now c.loop-behind.unread.now _ _ c.in-Some.behind.now c.left_of.ensures.left c.in-Some.ensures.some)

pub returns-then-is_empty : goal.returns-then-is_empty
returns-then-is_empty c =
    let left = c.left_of.result.1.now in
    let rest = c.left_of.result.0.now in
    let none = (is_empty_iff left c.is_empty.result c.is_empty.ensures).0 c.if-is_empty.true in
    let ended = at_end c.loop-behind.after.now c.loop-behind.unread.now rest left c.left_of.ensures.left c.in_default.ensures.none none in
    both_ways_on _ _ _ (is_empty_iff rest c.is_empty-then-is_empty.result c.is_empty-then-is_empty.ensures) (other_way _ _ (both_ways_on _ _ _ c.loop-behind.invariant ended))

pub loop-behind-preserved : goal.loop-behind-preserved
loop-behind-preserved c =
    let left = c.left_of.result.1.now in
    let rest = c.left_of.result.0.now in
    let some = not_empty left c.is_empty.result c.is_empty.ensures c.if-is_empty.false in
    both_ways_on _ _ _ c.loop-behind.invariant (one_less c.loop-behind.after.now c.loop-behind.unread.now rest left c.left_of.ensures.left c.in_default.ensures.none some)

use Rattle.std.proofs.Common.{◌≡◌, ◌-◌, ◌<◌, List, ℕ, take, drop, take_all, length, get_or, length-drop, arith}
use Rattle.policy_rules.proofs.LeftLemmas.{IsShared-left}
use Rattle.policy_rules.proofs.literals.left_of.Goals.{then-loop-count-test+then-count-name+then-pattern-count-ne42+else-pattern-count, then-loop-count-test+then-count-name+else-pattern-count-ne42, then-loop-count-test+else-count-name, else-loop-count-test}
use Rattle.policy_rules.proofs.literals.left_of.Goals as goal

-- the rest of a list by its length is the rest
rest_is : (xs : List ℕ) (n : ℕ) → take (length xs - n) (drop n xs) ≡ drop n xs
rest_is xs n = take_all (length xs - n) (drop n xs) (omega (arith, length-drop n xs))

pub returns-clause-left : goal.returns-clause-left
returns-clause-left c =
    let p = c.args.pattern.now in
    let n = c.args.name.now in
    let k = c.loop-count.count in
    let most : k < length p → k < length n → get_or p k 0 ≡ get_or n k 0 → get_or p k 0 ≡ 42 =
    elim c.loop-count-test.branch [
      | then-loop-count-test+then-count-name+then-pattern-count-ne42+else-pattern-count w ↦ λ a b e. absurd (omega arith)
      | then-loop-count-test+then-count-name+else-pattern-count-ne42 w ↦ λ a b e. omega arith
      | then-loop-count-test+else-count-name w ↦ λ a b e. absurd (omega arith)
      | else-loop-count-test w ↦ λ a b e. absurd (omega arith)
    ] in
    rw (rest_is p k, rest_is n k) (IsShared-left p n k c.loop-count.invariant most)

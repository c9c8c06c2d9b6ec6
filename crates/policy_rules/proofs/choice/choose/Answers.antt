use Rattle.std.proofs.Common.{◌≡◌, ℕ, ◌+◌, List, Option, Some, sym, ap, subst, ◌∙◌, arith}
use Rattle.std.specs.List.{slice_get}
use Rattle.std.proofs.lemmas.Bool.{both_ways}
use Rattle.std.proofs.lemmas.Option.{slice_get-get_or}
use Rattle.policy_rules.specs.Matching.{Matches}
use Rattle.policy_rules.proofs.BestSoFar.{Best, Best-taken, Best-kept, Best-other, if_chosen, if_none}
use Rattle.policy_rules.proofs.choice.choose.Goals.{then-matches+then-is_better_than, else-matches, else-matches-via-then-matches+else-is_better_than, else-matches-via-else-matches}
use Rattle.policy_rules.proofs.choice.choose.Goals as goal

pub loop-i-preserved : goal.loop-i-preserved
loop-i-preserved c =
    let rules = c.args.rules.now in
    let name = c.args.name.now in
    let i = c.loop-i.i in
    let rule = c.index-rules-i.result in
    let there : slice_get rules i ≡ Some rule = slice_get-get_or rules i rule (omega arith) ∙ ap Some (sym c.index-rules-i.is) in
    let M : List ℕ → Type 0 = λ pattern. Matches pattern name in
    let B : Option ℕ → Type 0 = λ o. Best rules name (i + 1) o in
    elim c.if-matches.branch [
      | then-matches+then-is_better_than w ↦
          subst B (sym w.chosen-is) (Best-taken rules name i c.loop-i.chosen rule there (subst M c.bytes.ensures.value (c.matches.ensures.0 w.if-matches.true)) (w.is_better_than.ensures.0 w.if-is_better_than.true) c.loop-i.invariant)
      | else-matches w ↦
          subst B (sym w.chosen-is) (elim w.else-matches.branch [
            | else-matches-via-then-matches+else-is_better_than x ↦
                Best-kept rules name i c.loop-i.chosen rule there (λ g. both_ways x.is_better_than.result x.if-is_better_than.false (x.is_better_than.ensures.1 g)) c.loop-i.invariant
            | else-matches-via-else-matches x ↦
                Best-other rules name i c.loop-i.chosen rule there (λ m. both_ways c.matches.result x.if-matches.false (c.matches.ensures.1 (subst M (sym c.bytes.ensures.value) m))) c.loop-i.invariant
          ])
    ]

pub returns-clause-some : goal.returns-clause-some
returns-clause-some c =
    if_chosen c.args.rules.now c.args.name.now c.loop-i.i c.loop-i.chosen (omega arith) c.loop-i.invariant

pub returns-clause-none : goal.returns-clause-none
returns-clause-none c =
    if_none c.args.rules.now c.args.name.now c.loop-i.i c.loop-i.chosen (omega arith) c.loop-i.invariant

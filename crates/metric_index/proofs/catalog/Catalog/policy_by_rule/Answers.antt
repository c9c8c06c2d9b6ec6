use Rattle.std.proofs.Common.{ℕ, List, ap, subst, ◌∙◌}
use Rattle.std.proofs.lemmas.Option.{get_or_from_slice_get}
use Rattle.policy_rules.specs.declared.rule.Rule.{Rule}
use Rattle.policy_rules.specs.Choice.{IsChosen}
use Rattle.metric_index.proofs.catalog.Catalog.policy_by_rule.Goals as goal

pub returns-in-Some-clause-some : goal.returns-in-Some-clause-some
returns-in-Some-clause-some c =
    let at = c.in-Some.at in
    let items = c.args.self.now.rules.items in
    let chosen = subst (λ (rs : List Rule). IsChosen rs c.args.name.now at) c.as_slice.ensures.value
    (subst (λ (n : List ℕ). IsChosen c.as_slice.result.now n at) c.bytes.ensures.value c.in-Some.ensures.some) in
    (at, chosen, ap (λ (r : Rule). r.policy) (c.index.ensures ∙ get_or_from_slice_get items at chosen.rule c.index.result.now chosen.is_there))

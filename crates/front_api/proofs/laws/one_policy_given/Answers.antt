use Rattle.std.proofs.Common.{◌≡◌, ℕ, List, Option, Some, None, sym, ap, subst, ◌∙◌}
use Rattle.std.specs.List.{slice_get}
use Rattle.std.proofs.lemmas.Option.{get_or_from_slice_get, same_Some, slice_get_within}
use Rattle.policy_rules.specs.declared.rule.Rule.{Rule}
use Rattle.policy_rules.specs.Choice.{IsChosen}
use Rattle.policy_rules.specs.Matching.{Matches}
use Rattle.front_api.specs.Replies.{GetsNone, GetsPolicy}
use Rattle.front_api.proofs.laws.one_policy_given.Goals as goal

one_rule : (rules : List Rule) (text : List ℕ) (i k : ℕ) (c : IsChosen rules text i) (d : IsChosen rules text k) → i ≡ k → c.rule ≡ d.rule
one_rule rules text i k c d e = same_Some c.rule d.rule (sym c.is_there ∙ ap (slice_get rules) e ∙ d.is_there)

one : ((rules : List Rule) (text : List ℕ) (i k : ℕ) → IsChosen rules text i → IsChosen rules text k → i ≡ k) → (rules : List Rule) (policy name : Option (List ℕ)) (got other : List ℕ)
    → GetsPolicy rules policy name got → GetsPolicy rules policy name other → got ≡ other
one once rules (Some given) name got other g h = g ∙ sym h
one once rules None None got other g h = absurd g
one once rules None (Some text) got other g h =
    g.2 ∙ ap (λ (r : Rule). r.policy) (one_rule rules text g.0 h.0 g.1 h.1 (once rules text g.0 h.0 g.1 h.1)) ∙ sym h.2

never : (rules : List Rule) (policy name : Option (List ℕ)) (got : List ℕ) → GetsPolicy rules policy name got → GetsNone rules policy name → ⊥
never rules (Some given) name got g none = none
never rules None None got g none = g
never rules None (Some text) got g none =
    let chosen = g.1 in
    none g.0 chosen.rule (slice_get_within rules g.0 chosen.rule chosen.is_there)
    (subst (λ (r : Rule). Matches r.pattern text) (sym (get_or_from_slice_get rules g.0 chosen.rule chosen.rule chosen.is_there)) chosen.matches)

pub returns-clause-one : goal.returns-clause-one
returns-clause-one c = one c.one_choice.ensures

pub returns-clause-not_none : goal.returns-clause-not_none
returns-clause-not_none c = never

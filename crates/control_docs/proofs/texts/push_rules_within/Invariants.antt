use Rattle.std.proofs.Common.{◌≡◌, ◌++◌, ◌∷◌, take}
use Rattle.std.specs.List.{flat_map}
use Rattle.control_docs.specs.Texts.{rule_text}
use Rattle.control_docs.proofs.texts.push_rules_within.Given as goal

abbrev pub invariant-loop-rule : goal.invariant-loop-rule
invariant-loop-rule l =
    l.text.items ≡ l.initial.text.items ++ flat_map (λ x. 44 ∷ rule_text x) (take l.rule-index l.others)

use Rattle.std.proofs.Common.{◌≡◌, ◌++◌, ◌∷◌, take}
use Rattle.std.specs.List.{flat_map}
use Rattle.control_docs.specs.Texts.{definition_text}
use Rattle.control_docs.proofs.texts.push_definitions.Given as goal

abbrev pub invariant-loop-definition : goal.invariant-loop-definition
invariant-loop-definition l =
    l.text.items ≡ l.initial.text.items ++ flat_map (λ x. 44 ∷ definition_text x) (take l.definition-index l.others)

use Rattle.std.proofs.Common.{◌≡◌, ◌++◌, ◌∷◌, take}
use Rattle.std.specs.List.{flat_map}
use Rattle.control_docs.specs.Texts.{kind_text}
use Rattle.control_docs.proofs.texts.push_kinds.Given as goal

abbrev pub invariant-loop-kind : goal.invariant-loop-kind
invariant-loop-kind l =
    l.text.items ≡ l.initial.text.items ++ flat_map (λ x. 44 ∷ kind_text x) (take l.kind-index l.others)

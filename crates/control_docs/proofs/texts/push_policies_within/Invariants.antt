use Rattle.std.proofs.Common.{◌≡◌, ◌++◌, ◌∷◌, take}
use Rattle.std.specs.List.{flat_map}
use Rattle.control_docs.specs.Texts.{policy_text}
use Rattle.control_docs.proofs.texts.push_policies_within.Given as goal

abbrev pub invariant-loop-policy : goal.invariant-loop-policy
invariant-loop-policy l =
    l.text.items ≡ l.initial.text.items ++ flat_map (λ x. 44 ∷ policy_text x) (take l.policy-index l.others)

use Rattle.std.proofs.Common.{◌≡◌, ◌++◌, ◌∷◌, take}
use Rattle.std.specs.List.{flat_map}
use Rattle.control_docs.specs.Texts.{named_id_text}
use Rattle.control_docs.proofs.texts.push_named_ids.Given as goal

abbrev pub invariant-loop-metric : goal.invariant-loop-metric
invariant-loop-metric l =
    l.text.items ≡ l.initial.text.items ++ flat_map (λ x. 44 ∷ named_id_text x) (take l.metric-index l.others)

use Rattle.std.proofs.Common.{◌≡◌, ◌++◌, ◌∷◌, take}
use Rattle.std.specs.List.{flat_map}
use Rattle.measure_json.specs.Answer.{row_json}
use Rattle.measure_json.proofs.answer.append_rows.Given as goal

abbrev pub invariant-loop-row : goal.invariant-loop-row
invariant-loop-row l =
    l.text.items ≡ l.initial.text.items ++ flat_map (λ r. 44 ∷ row_json l.exact r) (take l.row-index l.others)

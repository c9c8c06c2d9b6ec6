-- Items with commas between them.
use Rattle.std.specs.Prelude.{ℕ, zero, suc, if◌then◌else◌, List, [], ◌∷◌, Result, Ok}
use Rattle.measure_json.specs.declared.fault.Fault.{Fault}
use Rattle.measure_json.specs.Fault.{◌>>=◌, with_front}
use Rattle.measure_json.specs.Marks.{next_at}

-- one item or more, up to the closing bracket; where so many have been read and another follows, what is over decides
unfoldable pub items_within : {A : Type 0} → (List ℕ → Result (A × List ℕ) Fault) → ℕ → (List ℕ → Result (List A × List ℕ) Fault) → ℕ → List ℕ → Result (List A × List ℕ) Fault
items_within item closing over zero text = over text
items_within item closing over (suc n) text =
    item text >>= λ first. next_at closing first.1 >>= λ next. with_front (first.0 ∷ []) (if next.0 then items_within item closing over n next.1 else Ok ([], next.1))

-- Lists read item by item.
use Rattle.std.proofs.Common.{◌≡◌, ℕ, List, [], ◌∷◌, ◌++◌, drop, Result, Ok, Err, refl, sym, ap, append_assoc}
use Rattle.serde_json.specs.Data.{Data}
use Rattle.serde_json.specs.View.{items_view}
use Rattle.serde_json.specs.declared.value.Value.{Value}
use Rattle.control_docs.specs.declared.fault.ControlBodyFault.{ControlBodyFault}
use Rattle.control_docs.specs.Fault.{◌>>=◌}
use Rattle.control_docs.specs.Member.{all_of, with_first}

-- what was read so far, and what the rest reads as
abbrev pub with_front : {A : Type 0} → List A → Result (List A) ControlBodyFault → Result (List A) ControlBodyFault
with_front xs rest = rest >>= λ ys. Ok (xs ++ ys)

-- what is read next goes behind what was read so far
pub front_step : {A : Type 0} (xs : List A) (x : A) (rest : Result (List A) ControlBodyFault) → with_front xs (rest >>= with_first x) ≡ with_front (xs ++ x ∷ []) rest
front_step xs x (Ok ys) = ap Ok (sym (append_assoc xs (x ∷ []) ys))
front_step xs x (Err fault) = refl

-- what the items from a place on read as
abbrev pub rest_of : {A : Type 0} → (Data → Result A ControlBodyFault) → List Value → ℕ → Result (List A) ControlBodyFault
rest_of read vs i = all_of read (items_view (drop i vs))

-- What a source in memory gives.
use Rattle.std.proofs.Common.{◌≡◌, ℕ, ◌-◌, ◌<◌, min, List, [], ◌++◌, length, take, drop, sym, ap, ◌∙◌, arith, length-append}
use Rattle.std.proofs.lemmas.List.{length-take, length-drop, take_at, take-append-drop, nil_from_length}

-- the first bytes that were left were copied to the front, as many as fit
pub consumed : (left rest copied out : List ℕ) (n : ℕ) → n ≡ min (length out) (length left) → copied ≡ take n left → rest ≡ drop n left
    → (left ≡ take n (copied ++ drop n out) ++ rest) × (n ≡ 0 → 0 < length (copied ++ drop n out) → rest ≡ [])
consumed left rest copied out n most copied-is rest-is =
    let copied-len : length copied ≡ n = omega (arith, ap length copied-is, length-take n left) in
    let rest-len : length rest ≡ length left - n = ap length rest-is ∙ length-drop n left in
    let front : take n (copied ++ drop n out) ≡ copied = take_at copied (drop n out) n copied-len in
    let whole : left ≡ copied ++ rest = sym (ap (λ (xs : List ℕ). xs ++ rest) copied-is ∙ ap (λ (xs : List ℕ). take n left ++ xs) rest-is ∙ take-append-drop n left) in
    (whole ∙ ap (λ (xs : List ℕ). xs ++ rest) (sym front), λ none room. nil_from_length rest (omega (arith, length-append copied (drop n out), length-drop n out)))

-- How large the parts of a summary are.
use Rattle.std.proofs.Common.{◌*◌, ◌^◌, ◌≤◌, List, [], ◌∷◌, ℤ, unsigned_abs, refl, arith}
use Rattle.std.specs.List.{All, Contains}
use Rattle.std.proofs.lemmas.List.Elements.{All-contains}
use Rattle.series_model.specs.Bucket.{first, greatest, last, least}
use Rattle.series_model.proofs.Members.{Contains-here, Contains-there}
use Rattle.series_model.proofs.ValueLaws.{greatest_is, least_is}

-- of at most the largest magnitude of a change
abbrev pub IsSmallValue : ℤ → Type 0
IsSmallValue value = unsigned_abs value ≤ 2 * 10 ^ 18

pub least_small : (values : List ℤ) → All IsSmallValue values → IsSmallValue (least values)
least_small [] small = omega arith
least_small (v ∷ values) small = All-contains IsSmallValue (v ∷ values) (least (v ∷ values)) small (least_is v values).0

pub greatest_small : (values : List ℤ) → All IsSmallValue values → IsSmallValue (greatest values)
greatest_small [] small = omega arith
greatest_small (v ∷ values) small = All-contains IsSmallValue (v ∷ values) (greatest (v ∷ values)) small (greatest_is v values).0

pub first_small : (values : List ℤ) → All IsSmallValue values → IsSmallValue (first values)
first_small [] small = omega arith
first_small (v ∷ values) small = All-contains IsSmallValue (v ∷ values) v small (Contains-here v values v refl)

-- the last value is one of them
last_is_one : (v : ℤ) (values : List ℤ) → Contains (v ∷ values) (last (v ∷ values))
last_is_one v [] = Contains-here v [] v refl
last_is_one v (w ∷ values) = Contains-there v (w ∷ values) (last (w ∷ values)) (last_is_one w values)

pub last_small : (values : List ℤ) → All IsSmallValue values → IsSmallValue (last values)
last_small [] small = omega arith
last_small (v ∷ values) small = All-contains IsSmallValue (v ∷ values) (last (v ∷ values)) small (last_is_one v values)

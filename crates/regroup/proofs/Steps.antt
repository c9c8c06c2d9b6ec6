-- Steps of the loops over runs, values and tallies.
use Rattle.std.proofs.Common.{◌≡◌, List, [], ◌∷◌, ◌++◌, Option, Some, None, ◌-ℤ◌, refl, ap, ◌∙◌}
use Rattle.series_model.specs.declared.measure.Measure.{Measure}
use Rattle.series_model.specs.Tail.{last_onto}
use Rattle.regroup.specs.Tallies.{changes_behind}
use Rattle.regroup.proofs.RunLaws.{changes-append}

pub last-push : (o : Option Measure) (xs : List Measure) (m : Measure) → last_onto o (xs ++ m ∷ []) ≡ Some m
last-push o [] m = refl
last-push o (x ∷ xs) m = last-push (Some x) xs m

-- one member more behind another one, and behind none
pub changes-first : (o : Option Measure) (xs : List Measure) (m : Measure) → last_onto o xs ≡ None → changes_behind o (xs ++ m ∷ []) ≡ changes_behind o xs ++ []
changes-first o xs m none = changes-append o xs (m ∷ []) ∙ ap (λ p. changes_behind o xs ++ changes_behind p (m ∷ [])) none

pub changes-next : (o : Option Measure) (xs : List Measure) (m b : Measure) → last_onto o xs ≡ Some b → changes_behind o (xs ++ m ∷ []) ≡ changes_behind o xs ++ (record { at = m.at; value = m.value -ℤ b.value }) ∷ []
changes-next o xs m b is = changes-append o xs (m ∷ []) ∙ ap (λ p. changes_behind o xs ++ changes_behind p (m ∷ [])) is

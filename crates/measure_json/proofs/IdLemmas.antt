-- Identifiers.
use Rattle.std.proofs.Common.{◌≡◌, true, false, Option, None, Some, refl}

-- what has no reading is None
pub no_id : {A : Type 0} (o : Option A) → (((u : A) × (o ≡ Some u)) → false ≡ true) → o ≡ None
no_id None h = refl
no_id (Some x) h = let never : false ≡ true = h (x, refl) in absurd cc

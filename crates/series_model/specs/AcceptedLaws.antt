-- What more batches do to what is accepted.
use Rattle.std.specs.Prelude.{◌≡◌, ℕ, List, [], ◌∷◌, ◌++◌, refl}
use Rattle.series_model.specs.declared.measure.Measure.{Measure}
use Rattle.series_model.specs.Accepted.{after_turn, accepted_onto, accepted_of}

pub accepted_onto-append : (largest back : ℕ) (so_far : List Measure) (xs ys : List (List Measure)) → accepted_onto largest back so_far (xs ++ ys) ≡ accepted_onto largest back (accepted_onto largest back so_far xs) ys
accepted_onto-append largest back so_far [] ys = refl
accepted_onto-append largest back so_far (batch ∷ xs) ys =
    accepted_onto-append largest back (after_turn largest back so_far batch) xs ys

pub accepted_of-append : (largest back : ℕ) (xs ys : List (List Measure)) → accepted_of largest back (xs ++ ys) ≡ accepted_onto largest back (accepted_of largest back xs) ys
accepted_of-append largest back xs ys = accepted_onto-append largest back [] xs ys

pub accepted_of-push : (largest back : ℕ) (batches : List (List Measure)) (batch : List Measure) → accepted_of largest back (batches ++ batch ∷ []) ≡ after_turn largest back (accepted_of largest back batches) batch
accepted_of-push largest back batches batch = accepted_of-append largest back batches (batch ∷ [])

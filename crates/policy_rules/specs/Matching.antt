-- Which names a pattern matches.
use Rattle.std.specs.Prelude.{◌≡◌, ◌≢◌, ℕ, ◌⊎◌, List, [], ◌∷◌, ◌++◌}

-- The empty pattern matches the empty name. `*` (42) stands for any run in front of what the rest of
-- the pattern matches, also for an empty one, and every other byte for itself.
abbrev pub Matches : List ℕ → List ℕ → Type 0
Matches [] name = name ≡ []
Matches (byte ∷ pattern) name =
    ((byte ≡ 42) × ((run : List ℕ) × (rest : List ℕ) × (name ≡ run ++ rest) × Matches pattern rest))
    ⊎ ((byte ≢ 42) × ((rest : List ℕ) × (name ≡ byte ∷ rest) × Matches pattern rest))

-- What a call of a shared total says: the sum of the numbers added so far, on top of what there was at first.
use Rattle.std.specs.Prelude.{◌≡◌, ◌<◌, ◌⊎◌, ℕ, List, [], ◌∷◌, ◌++◌, sum, length, ◌+◌, ◌^◌, ◌≤◌, Option, MatchOption}

-- a call adds its own number, and its reply is the total with it. Where that is too large it adds none
abbrev pub AddsNumber : ℕ → ℕ → Option ℕ → List ℕ → List ℕ → Type 0
AddsNumber opening number reply before more =
    MatchOption reply
    ((more ≡ []) × (2 ^ 64 ≤ opening + sum before + number))
    (λ total. (more ≡ number ∷ []) × (total ≡ opening + sum (before ++ more)))

-- with the number the total would be too large, or the history too long
abbrev pub HasNoPlace : ℕ → ℕ → List ℕ → Type 0
HasNoPlace opening number numbers = (2 ^ 64 ≤ opening + sum numbers + number) ⊎ (2 ^ 63 < length numbers + 1)

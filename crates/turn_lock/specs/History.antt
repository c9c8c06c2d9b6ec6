-- Histories: lists of entries, each with the number of the caller that made it.
use Rattle.std.specs.Prelude.{◌≡◌, ℕ, ◌==◌, List, [], ◌∷◌, map, if◌then◌else◌}

module _ {E : Type 0} where
  -- the entries alone, in order
  abbrev pub entries_in : List (ℕ × E) → List E
  entries_in history = map (λ x. x.1) history

  -- these entries, made by one caller
  abbrev pub entries_of : ℕ → List E → List (ℕ × E)
  entries_of caller es = map (λ e. (caller, e)) es

  -- the entries that this caller made, in order
  abbrev pub entries_by : ℕ → List (ℕ × E) → List E
  entries_by caller [] = []
  entries_by caller (x ∷ xs) = if x.0 == caller then x.1 ∷ entries_by caller xs else entries_by caller xs

  -- of each of these callers the history has just the entries beside its number
  abbrev pub HasJust : List (ℕ × E) → List (ℕ × List E) → Type 0
  HasJust history [] = Unit {0}
  HasJust history (c ∷ cs) = (entries_by c.0 history ≡ c.1) × HasJust history cs

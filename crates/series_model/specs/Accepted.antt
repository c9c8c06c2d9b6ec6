-- Which measures are accepted.
use Rattle.std.specs.Prelude.{ℕ, ◌-◌, ◌*◌, max, nat_le, Bool, true, List, [], ◌∷◌, ◌++◌, Option, Some, None}
use Rattle.std.specs.List.{filter}
use Rattle.gno_num.specs.Floor.{floor_of}
use Rattle.series_model.specs.declared.measure.Measure.{Measure}

-- the later of a time and another one, where there is one
abbrev pub later : ℕ → Option ℕ → ℕ
later at None = at
later at (Some other) = max at other

-- the greatest timestamp, where there is a measure
abbrev pub latest : List Measure → Option ℕ
latest [] = None
latest (m ∷ measures) = Some (later m.at (latest measures))

-- The window: the earliest time that is accepted, by the largest granularity of the policy, its
-- back window and the greatest timestamp that was accepted. Before one was, there is none.
abbrev pub window : ℕ → ℕ → Option ℕ → Option ℕ
window largest back None = None
window largest back (Some last) = Some (floor_of last largest - back * largest)

-- a measure isn't before the window
abbrev pub is_within : Option ℕ → Measure → Bool
is_within None m = true
is_within (Some from) m = nat_le from m.at

-- a batch's turn: the window that stands as it begins judges all its measures
abbrev pub after_turn : ℕ → ℕ → List Measure → List Measure → List Measure
after_turn largest back so_far batch =
    so_far ++ filter (is_within (window largest back (latest so_far))) batch

-- the measures that are accepted after each of these batches had its turn, in the order of acceptance
abbrev pub accepted_onto : ℕ → ℕ → List Measure → List (List Measure) → List Measure
accepted_onto largest back so_far [] = so_far
accepted_onto largest back so_far (batch ∷ batches) =
    accepted_onto largest back (after_turn largest back so_far batch) batches

-- the measures that are accepted of these batches
abbrev pub accepted_of : ℕ → ℕ → List (List Measure) → List Measure
accepted_of largest back batches = accepted_onto largest back [] batches

-- Where the bodies of the records stand.
use Rattle.std.specs.Prelude.{◌≡◌, ◌≢◌, ℕ, ◌+◌, List, [], ◌∷◌, length, map, take, drop, slice_index}
use Rattle.gate_log.specs.Records.{log_bytes}
use Rattle.gate_log.specs.declared.place.Place.{Place}

-- the body at a place
abbrev pub body_at : List ℕ → Place → List ℕ
body_at bytes place = take place.len (drop place.at bytes)

-- the bodies at these places
abbrev pub bodies_at : List Place → List ℕ → List (List ℕ)
bodies_at places bytes = map (body_at bytes) places

-- records lie from one place to another without a gap, each body behind its gate and its length
abbrev pub Spans : List Place → ℕ → ℕ → Type 0
Spans [] from to = from ≡ to
Spans (place ∷ places) from to = (place.at ≡ from + 9) × Spans places (place.at + place.len) to

-- up to the end the bytes are these records
abbrev pub AreWritten : List Place → ℕ → List ℕ → Type 0
AreWritten places end bytes = take end bytes ≡ log_bytes (bodies_at places bytes)

-- behind the records stands a closed gate
pub record IsClosed (end : ℕ) (bytes : List ℕ) : Type 0 where
  pub gate : slice_index bytes end ≢ 1

-- where records lie, one after another from a place on
abbrev pub places_of : ℕ → List (List ℕ) → List Place
places_of from [] = []
places_of from (body ∷ records) = (record { at = from + 9; len = length body }) ∷ places_of (from + 9 + length body) records

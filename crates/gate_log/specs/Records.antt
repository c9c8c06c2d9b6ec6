-- The bytes of a log.
use Rattle.std.specs.Prelude.{◌≡◌, ◌≢◌, ◌⊎◌, ℕ, ◌+◌, ◌<◌, ◌≤◌, List, [], ◌∷◌, ◌++◌, length, map, drop, slice_index, Vec}
use Rattle.std.specs.declared.alloc.Global.{Global}
use Rattle.std.specs.List.{flat_map}
use Rattle.byteorder.specs.Endian.{big_bytes, big_number}

-- an open gate, the length of the body in eight bytes, and the body
abbrev pub record_bytes : List ℕ → List ℕ
record_bytes body = 1 ∷ big_bytes 8 (length body) ++ body

-- the records, one after another
abbrev pub log_bytes : List (List ℕ) → List ℕ
log_bytes records = flat_map record_bytes records

-- what these vectors hold
abbrev pub bodies_of : List (Vec ℕ Global) → List (List ℕ)
bodies_of bodies = map (λ (body : Vec ℕ Global). body.items) bodies

-- how long these bodies are together
abbrev pub total_length : List (List ℕ) → ℕ
total_length [] = 0
total_length (body ∷ bodies) = length body + total_length bodies

-- The bytes hold these records and no more: a closed gate stands behind them, and what follows it
-- counts for nothing.
pub record Holds (bytes : List ℕ) (records : List (List ℕ)) : Type 0 where
  pub gate : ℕ
  pub rest : List ℕ
  pub closed : gate ≢ 1
  pub bytes_are : bytes ≡ log_bytes records ++ gate ∷ rest

-- the bytes begin with these records
pub record Begins (bytes : List ℕ) (records : List (List ℕ)) : Type 0 where
  pub rest : List ℕ
  pub bytes_are : bytes ≡ log_bytes records ++ rest

-- no list of records is held, not even the one without records
abbrev pub HoldsNoList : List ℕ → Type 0
HoldsNoList bytes = (records : List (List ℕ)) → Holds bytes records → ⊥

-- this record stands whole at place 0, and the next gate behind it
pub record BeginsWith (body bytes : List ℕ) : Type 0 where
  pub begins : Begins bytes (body ∷ [])
  pub next_gate : length (log_bytes (body ∷ [])) < length bytes

-- There is no log: the bytes don't begin with a whole record behind an open gate.
abbrev pub HasNoLog : List ℕ → Type 0
HasNoLog bytes = (body : List ℕ) → BeginsWith body bytes → ⊥

-- an open gate whose length, body or next gate isn't there
abbrev pub IsCutShort : List ℕ → Type 0
IsCutShort rest = (slice_index rest 0 ≡ 1) × ((length rest < 9) ⊎ (length rest ≤ 9 + big_number 8 (drop 1 rest)))

-- Behind some records the record whose gate stands at this place is cut short. Where there is no
-- byte at all, the first gate isn't there.
pub record IsDamaged (bytes : List ℕ) (at : ℕ) : Type 0 where
  pub records : List (List ℕ)
  pub rest : List ℕ
  pub bytes_are : bytes ≡ log_bytes records ++ rest
  pub at_is : at ≡ length (log_bytes records)
  pub cut_short : (length bytes ≡ 0) ⊎ IsCutShort rest

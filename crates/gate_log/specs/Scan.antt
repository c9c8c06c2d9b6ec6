-- What is found when the records of a log are looked for.
use Rattle.std.specs.Prelude.{◌≡◌, ◌⊎◌, ℕ, ◌+◌, ◌-◌, ◌<◌, ◌≤◌, List, length, take, drop, slice_index, Option, IfSome, ⊤}
use Rattle.byteorder.specs.Endian.{big_bytes, big_number}
use Rattle.gate_log.specs.declared.place.Place.{Place}
use Rattle.gate_log.specs.declared.piece.Piece.{Piece}
use Rattle.gate_log.specs.declared.scan.Stop.{Stop}
use Rattle.gate_log.specs.declared.scan.Stop.TheVariants.{Failed, CutShort, NoMemory}

-- a fact of the place where the bytes are cut short
abbrev pub IfCutShort : Stop → (ℕ → Type 0) → Type 0
IfCutShort Failed P = ⊤
IfCutShort (CutShort at) P = P at
IfCutShort NoMemory P = ⊤

-- an open gate stands there, and behind it the length of the body
pub record IsRecordAt (gate : ℕ) (place : Place) (bytes : List ℕ) : Type 0 where
  pub open_gate : slice_index bytes gate ≡ 1
  pub length_of : take 8 (drop (gate + 1) bytes) ≡ big_bytes 8 place.len

-- what a piece has from this place on
abbrev pub head_in : Piece → ℕ → List ℕ
head_in piece gate = drop (gate - piece.at) piece.bytes.items

-- A piece was read from the disk. It has room for a record's head, or goes to the end of the disk.
pub record IsPieceOf (size : ℕ) (told : Option (List ℕ)) (piece : Piece) : Type 0 where
  pub inside : piece.at + length piece.bytes.items ≤ size
  pub enough : (9 ≤ length piece.bytes.items) ⊎ (piece.at + length piece.bytes.items ≡ size)
  pub read : IfSome told (λ bytes. piece.bytes.items ≡ take (length piece.bytes.items) (drop piece.at bytes))

-- the piece has the head at this gate, or all that the disk has of it
abbrev pub ReachesHead : ℕ → Piece → ℕ → Type 0
ReachesHead size piece gate = (gate + 9 ≤ piece.at + length piece.bytes.items) ⊎ (piece.at + length piece.bytes.items ≡ size)

-- an open gate, and from there on too few bytes for the head, or for the body and the next gate
abbrev pub IsHeadCutShort : ℕ → List ℕ → Type 0
IsHeadCutShort left head = (slice_index head 0 ≡ 1) × ((left < 9) ⊎ (left ≤ 9 + big_number 8 (drop 1 head)))

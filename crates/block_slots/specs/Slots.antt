-- Blocks of a disk: each stands at the front of a slot of its own.
use Rattle.std.specs.Prelude.{◌≡◌, ◌⊎◌, ℕ, ◌+◌, ◌-◌, ◌≤◌, max, List, [], ◌∷◌, ◌++◌, length, map, take, drop, replicate, All}
use Rattle.gno_disk.specs.declared.disk.Disk.{Ghosts}
use Rattle.gno_codec.specs.declared.item.Block.{Block}
use Rattle.shelf_records.specs.Shelved.{slot}
use Rattle.block_slots.specs.declared.slots.Piece.{Piece}

-- the block has these bytes on a disk of those
pub record Stands (disk : List ℕ) (block : Block) (bytes : List ℕ) : Type 0 where
  pub whole : length bytes ≡ block.len
  pub here : take block.len (drop block.at disk) ≡ bytes

-- the block ends before the slot at this place, or begins behind it
abbrev pub IsBeside : Block → ℕ → Type 0
IsBeside block at = (block.at + block.len ≤ at) ⊎ (at + slot ≤ block.at)

-- Whatever was written to the slots at these places: each block beside them has the bytes that it had, and
-- the disk isn't shorter.
pub record Spares (places : List ℕ) (old new : List ℕ) : Type 0 where
  pub longer : length old ≤ length new
  pub stands : (block : Block) (bytes : List ℕ) → All (IsBeside block) places → Stands old block bytes → Stands new block bytes

-- an image that comes from one of the disk's in this way
pub record IsSpared {D : Type 0} (g : Ghosts D) (places : List ℕ) (disk : D) (image : List ℕ) : Type 0 where
  pub before : List ℕ
  pub left : g.may_leave disk before
  pub spares : Spares places before image

-- the places of pieces
abbrev pub places_of : List Piece → List ℕ
places_of pieces = map (λ p. p.at) pieces

-- the slot at a place, as a block
abbrev pub slot_at : ℕ → Block
slot_at at = record { at = at; len = slot }

-- the bytes, and zeros up to the end of the slot
abbrev pub padded : List ℕ → List ℕ
padded bytes = bytes ++ replicate (slot - length bytes) 0

-- the piece stands in its slot, with zeros behind it
abbrev pub FillsSlot : List ℕ → Piece → Type 0
FillsSlot disk p = Stands disk (slot_at p.at) (padded p.bytes.items)

-- a piece fits its slot
abbrev pub FitsSlot : Piece → Type 0
FitsSlot p = length p.bytes.items ≤ slot

-- two pieces have different slots, which don't overlap
abbrev pub AreBeside : Piece → Piece → Type 0
AreBeside p q = (p.at + slot ≤ q.at) ⊎ (q.at + slot ≤ p.at)

-- the length of a disk of that length once these are written
abbrev pub size_with : ℕ → List Piece → ℕ
size_with size [] = size
size_with size (p ∷ pieces) = size_with (max size (p.at + slot)) pieces

-- each slot begins within the disk as it then is
abbrev pub FollowOn : ℕ → List Piece → Type 0
FollowOn size [] = Unit {0}
FollowOn size (p ∷ pieces) = (p.at ≤ size) × FollowOn (max size (p.at + slot)) pieces

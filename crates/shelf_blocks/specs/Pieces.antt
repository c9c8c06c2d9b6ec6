-- What is to be written for chunks and splits.
use Rattle.std.specs.Prelude.{◌≡◌, ℕ, ◌+◌, ◌*◌, ◌-◌, ◌<◌, ◌≤◌, List, [], ◌∷◌, ◌++◌, length, map, take, slice_index_or}
use Rattle.std.specs.List.{AllZip, flat_map}
use Rattle.std.specs.List.Sorted.{IsStrictlyIncreasing}
use Rattle.series_model.specs.declared.measure.Measure.{Measure}
use Rattle.series_model.specs.declared.point.Split.{Split}
use Rattle.gno_codec.specs.declared.item.Block.{Block}
use Rattle.gno_codec.specs.Blocks.{IsChunk, IsSplit, raw_bytes, split_bytes}
use Rattle.shelf_records.specs.declared.series.Stored.{Stored}
use Rattle.block_slots.specs.declared.slots.Piece.{Piece}
use Rattle.block_slots.specs.Slots.{FitsSlot}
use Rattle.shelf_blocks.specs.Blocks.{AreChunks}

-- the block of a piece
abbrev pub block_of : Piece → Block
block_of p = record { at = p.at; len = length p.bytes.items }

-- a piece fits a slot, and has at least one byte
pub record IsPiece (p : Piece) : Type 0 where
  pub fits : FitsSlot p
  pub some : 0 < length p.bytes.items

-- the piece is this chunk
pub record IsChunkPiece (p : Piece) (chunk : List Measure) : Type 0 where
  pub is : IsChunk chunk
  pub bytes : p.bytes.items ≡ raw_bytes chunk
  pub piece : IsPiece p

-- Pieces at these places for a raw series: its chunks, one after another.
pub record AreChunkPieces (points : List Measure) (places : List ℕ) (pieces : List Piece) : Type 0 where
  pub chunks : List (List Measure)
  pub each : AllZip IsChunkPiece pieces chunks
  pub are : AreChunks points chunks
  pub places_are : map (λ p. p.at) pieces ≡ places

-- so many bytes' worth of places: the last one has at least one measure
pub record AreEnough (points places : ℕ) : Type 0 where
  pub enough : points ≤ 3600 * places
  pub needed : 3600 * places < points + 3600

-- a front of a raw series was cut into pieces at the first so many places, and this is left of it
pub record AreCut (points : List Measure) (places : List ℕ) (count : ℕ) (rest : List Measure) (pieces : List Piece) : Type 0 where
  pub chunks : List (List Measure)
  pub each : AllZip IsChunkPiece pieces chunks
  pub whole : flat_map (λ c. c) chunks ++ rest ≡ points
  pub full : (k : ℕ) → k + 1 < length places → k < length chunks → (d : List Measure) → length (slice_index_or chunks k d) ≡ 3600
  pub places_are : map (λ p. p.at) pieces ≡ take count places
  pub left : AreEnough (length rest) (length places - count)
  pub rising : IsStrictlyIncreasing (map (λ m. m.at) rest)

-- a split's piece and where it is then stored
pub record IsSplitPiece (granularity : ℕ) (split : Split) (p : Piece) : Type 0 where
  pub is : IsSplit granularity split
  pub bytes : p.bytes.items ≡ split_bytes granularity split
  pub piece : IsPiece p

-- the split, once its piece is written
abbrev pub stored_as : Split → Piece → Stored
stored_as split p = record { key = split.key; block = block_of p }

-- the same of lists of both, as long as one another
abbrev pub all_stored_as : List Split → List Piece → List Stored
all_stored_as [] pieces = []
all_stored_as (s ∷ splits) [] = []
all_stored_as (s ∷ splits) (p ∷ pieces) = stored_as s p ∷ all_stored_as splits pieces

-- Pieces at these places for splits, and where these are then stored.
pub record AreSplitPieces (granularity : ℕ) (splits : List Split) (places : List ℕ) (pieces : List Piece) (stored : List Stored) : Type 0 where
  pub each : AllZip (IsSplitPiece granularity) splits pieces
  pub places_are : map (λ p. p.at) pieces ≡ places
  pub stored_are : stored ≡ all_stored_as splits pieces

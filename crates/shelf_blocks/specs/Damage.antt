-- Why blocks are no raw series, and where.
use Rattle.std.specs.Prelude.{◌≡◌, ◌≢◌, ℕ, ◌+◌, ◌<◌, List, ◌++◌, length, map, take, Option, Some, slice_get, option_to_list}
use Rattle.std.specs.List.{AllZip, flat_map}
use Rattle.std.specs.List.Sorted.{IsStrictlyIncreasing}
use Rattle.series_model.specs.declared.measure.Measure.{Measure}
use Rattle.series_model.specs.Tail.{last_onto, last_time}
use Rattle.gno_codec.specs.declared.item.Block.{Block}
use Rattle.shelf_blocks.specs.Blocks.{HoldsChunk}

-- Why a block isn't the chunk behind these, of so many, of a raw series with this anchor and this last
-- timestamp: its bytes spell none; or it is short though it isn't the last one; or its times aren't behind
-- those before, the anchor's among them; or it is the last one, and its last time is another.
pub data IsOddChunk (disk : List ℕ) (count : ℕ) (anchor : Option Measure) (last : Option ℕ) (chunks : List (List Measure)) (block : Block) : Type 0 where
  unspelled : ((chunk : List Measure) → HoldsChunk disk block chunk → ⊥) → IsOddChunk disk count anchor last chunks block
  short : (chunk : List Measure) → HoldsChunk disk block chunk → length chunks + 1 < count → length chunk ≢ 3600 → IsOddChunk disk count anchor last chunks block
  early : (chunk : List Measure) → HoldsChunk disk block chunk
      → (IsStrictlyIncreasing (map (λ p. p.at) (option_to_list (last_onto anchor (flat_map (λ c. c) chunks)) ++ chunk)) → ⊥) → IsOddChunk disk count anchor last chunks block
  other_end : (chunk : List Measure) → HoldsChunk disk block chunk → length chunks + 1 ≡ count → last ≢ last_time chunk → IsOddChunk disk count anchor last chunks block

-- the first of these blocks that isn't a chunk of the raw series stands at this place
pub record IsDamagedRaw (disk : List ℕ) (blocks : List Block) (anchor : Option Measure) (last : Option ℕ) (at : ℕ) : Type 0 where
  pub chunks : List (List Measure)
  pub block : Block
  pub before : AllZip (HoldsChunk disk) (take (length chunks) blocks) chunks
  pub there : slice_get blocks (length chunks) ≡ Some block
  pub odd : IsOddChunk disk (length blocks) anchor last chunks block
  pub at_is : at ≡ block.at

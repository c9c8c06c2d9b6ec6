-- Chunks of a raw series that were read so far.
use Rattle.std.specs.Prelude.{◌≡◌, ℕ, ◌+◌, ◌<◌, List, ◌++◌, length, take, slice_index_or, Option, option_to_list, map}
use Rattle.std.specs.List.{AllZip, flat_map}
use Rattle.series_model.specs.declared.measure.Measure.{Measure}
use Rattle.gno_codec.specs.declared.item.Block.{Block}
use Rattle.shelf_blocks.specs.Blocks.{HoldsChunk}

-- these points are the chunks in the first so many of the blocks, each of which is full unless it is the last
-- of all
pub record AreRead (disk : List ℕ) (blocks : List Block) (count : ℕ) (points : List Measure) : Type 0 where
  pub chunks : List (List Measure)
  pub stand : AllZip (HoldsChunk disk) (take count blocks) chunks
  pub whole : flat_map (λ c. c) chunks ≡ points
  pub full : (k : ℕ) → k + 1 < length blocks → k < length chunks → (d : List Measure) → length (slice_index_or chunks k d) ≡ 3600

-- the chunk may stand behind these measures: its times rise from the last one's on
abbrev pub behind : Option Measure → List Measure → List ℕ
behind before chunk = map (λ p. p.at) (option_to_list before ++ chunk)

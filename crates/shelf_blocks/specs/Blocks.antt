-- What the blocks of live metrics hold.
use Rattle.std.specs.Prelude.{◌≡◌, ℕ, ◌+◌, ◌<◌, List, ◌++◌, length, map, option_to_list, slice_get, slice_index_or, Option, Some}
use Rattle.std.specs.List.{AllZip, flat_map}
use Rattle.std.specs.List.Sorted.{IsStrictlyIncreasing}
use Rattle.archive_policy.specs.declared.definition.Definition.{Definition}
use Rattle.archive_policy.specs.Policies.{ArchivePolicy}
use Rattle.series_model.specs.declared.measure.Measure.{Measure}
use Rattle.series_model.specs.declared.point.Split.{Split}
use Rattle.series_model.specs.Tail.{Tail, last_time}
use Rattle.gno_codec.specs.declared.item.Block.{Block}
use Rattle.gno_codec.specs.Blocks.{IsChunk, IsSplit, raw_bytes, split_bytes}
use Rattle.shelf_records.specs.declared.series.Stored.{Stored}
use Rattle.shelf_records.specs.Shelved.{Kept, Shelved}
use Rattle.block_slots.specs.Slots.{Stands}
use Rattle.split_update.specs.Live.{Live}

-- a block of a disk of these bytes is this chunk of a raw series
pub record HoldsChunk (disk : List ℕ) (block : Block) (chunk : List Measure) : Type 0 where
  pub is : IsChunk chunk
  pub stands : Stands disk block (raw_bytes chunk)

-- the chunks of a raw series, one after another; all but the last are full
pub record AreChunks (points : List Measure) (chunks : List (List Measure)) : Type 0 where
  pub whole : flat_map (λ chunk. chunk) chunks ≡ points
  pub full : (k : ℕ) → k + 1 < length chunks → (d : List Measure) → length (slice_index_or chunks k d) ≡ 3600

-- the times of a raw series rise from the anchor on, and its last timestamp is that of its last point
pub record IsRaw (raw : Tail) : Type 0 where
  pub rising : IsStrictlyIncreasing (map (λ m. m.at) (option_to_list raw.anchor ++ raw.points))
  pub last : raw.last ≡ last_time raw.points

-- a raw series whose chunks stand in these blocks; the record has its anchor and its last timestamp
pub record HoldsRaw (disk : List ℕ) (blocks : List Block) (before : Option Measure) (end : Option ℕ) (raw : Tail) : Type 0 where
  pub chunks : List (List Measure)
  pub stand : AllZip (HoldsChunk disk) blocks chunks
  pub are : AreChunks raw.points chunks
  pub anchor : raw.anchor ≡ before
  pub last : raw.last ≡ end
  pub series : IsRaw raw

-- a split, whose key stands in the record, and whose points stand in its block
pub record HoldsSplit (disk : List ℕ) (granularity : ℕ) (stored : Stored) (split : Split) : Type 0 where
  pub key : split.key ≡ stored.key
  pub is : IsSplit granularity split
  pub stands : Stands disk stored.block (split_bytes granularity split)

-- the splits of a definition and kind
pub record HoldsSplits (disk : List ℕ) (policy : ArchivePolicy) (kept : Kept) (splits : List Split) : Type 0 where
  pub definition : Definition
  pub there : slice_get policy.definitions kept.definition ≡ Some definition
  pub each : AllZip (HoldsSplit disk definition.granularity) kept.splits splits

-- a metric
pub record HoldsMetric (disk : List ℕ) (m : Shelved) (live : Live) : Type 0 where
  pub id : live.id ≡ m.id
  pub policy : live.policy ≡ m.policy
  pub done : live.done ≡ m.done
  pub raw : HoldsRaw disk m.chunks m.anchor m.last live.raw
  pub splits : AllZip (HoldsSplits disk m.policy) m.kept live.splits

-- all metrics
abbrev pub HoldsMetrics : List ℕ → List Shelved → List Live → Type 0
HoldsMetrics disk metrics lives = AllZip (HoldsMetric disk) metrics lives

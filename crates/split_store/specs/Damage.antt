-- Why three disks hold no shelf, and where.
use Rattle.std.specs.Prelude.{◌≡◌, ◌≢◌, ℕ, List, [], map, All, Some, slice_get}
use Rattle.gno_num.specs.declared.faults.Damaged.{Damaged as Damage}
use Rattle.gno_codec.specs.declared.item.ShelfItem.{ShelfItem}
use Rattle.gno_codec.specs.Shelf.{IsShelf, shelf_bytes}
use Rattle.log_pair.specs.declared.place.Place.{Place}
use Rattle.log_pair.specs.Pair.{IsDamagedPair, StandsBehind}
use Rattle.shelf_records.specs.Shelved.{AreBlocks, AreLegal, MayFollow, Shelved, after_record, after_records, metric_of}
use Rattle.archive_policy.specs.declared.definition.Definition.{Definition}
use Rattle.archive_policy.specs.declared.kind.Kind.{Kind}
use Rattle.series_model.specs.declared.metric.MetricId.{MetricId}
use Rattle.series_model.specs.declared.point.Split.{Split}
use Rattle.gno_codec.specs.declared.item.Block.{Block}
use Rattle.shelf_records.specs.Filed.{splits_of}
use Rattle.shelf_records.specs.Series.{block_of}
use Rattle.shelf_blocks.specs.Blocks.{HoldsSplit}
use Rattle.shelf_blocks.specs.Damage.{IsDamagedRaw}
use Rattle.shelf_blocks.specs.Turns.{IsDamagedSplitOf}
use Rattle.split_store.specs.Shelf.{shelf_place}

-- Why these bytes are no record behind these of a shelf, whose blocks stand on a disk of so many bytes: they
-- spell none; or one that may not follow, or one after which the blocks in use overlap or aren't within the disk.
pub data IsOddRecord (size : ℕ) (items : List ShelfItem) (body : List ℕ) : Type 0 where
  unspelled : ((item : ShelfItem) → IsShelf item → body ≢ shelf_bytes item) → IsOddRecord size items body
  unfit : (item : ShelfItem) → IsShelf item → body ≡ shelf_bytes item → (MayFollow (after_records [] items) item × AreBlocks size (after_record (after_records [] items) item) → ⊥) → IsOddRecord size items body

-- Why three disks hold no shelf of this place, as their logs tell, and where: the two of the log are no pair of
-- it; or behind good records one stands that is none.
pub data IsDamagedShelf (place : Place) (size : ℕ) (a b : List ℕ) (d : Damage) : Type 0 where
  pair : IsDamagedPair (shelf_place place) a b d → IsDamagedShelf place size a b d
  odd : (items : List ShelfItem) (body : List ℕ) → All IsShelf items → AreLegal size [] items → IsOddRecord size items body
      → StandsBehind (shelf_place place) (map shelf_bytes items) body a b d → IsDamagedShelf place size a b d

-- ---- damage in blocks

-- at this place stands the first block of a metric's raw series that isn't a chunk of it
pub record HasOddChunk (metrics : List Shelved) (id : MetricId) (disk : List ℕ) (at : ℕ) : Type 0 where
  pub metric : Shelved
  pub live : metric_of id metrics ≡ Some metric
  pub damaged : IsDamagedRaw disk metric.chunks metric.anchor metric.last at

-- at this place a metric's split with this key is stored, and the block holds no split of that key
pub record HasOddSplit (metrics : List Shelved) (id : MetricId) (definition : ℕ) (kind : Kind) (key : ℕ) (disk : List ℕ) (at : ℕ) : Type 0 where
  pub metric : Shelved
  pub live : metric_of id metrics ≡ Some metric
  pub of : Definition
  pub there : slice_get metric.policy.definitions definition ≡ Some of
  pub block : Block
  pub stored : block_of key (splits_of definition kind metric.kept) ≡ Some block
  pub at_is : at ≡ block.at
  pub unspelled : (split : Split) → HoldsSplit disk of.granularity (record { key = key; block = block }) split → ⊥

-- at this place one of a metric's splits is stored, and the block holds no split of its key
pub record HasOddSplits (metrics : List Shelved) (id : MetricId) (disk : List ℕ) (at : ℕ) : Type 0 where
  pub metric : Shelved
  pub live : metric_of id metrics ≡ Some metric
  pub damaged : IsDamagedSplitOf disk metric at

-- What the records of a shelf's log amount to, as far as they were read.
use Rattle.std.specs.Prelude.{◌≡◌, ◌≢◌, ◌↔◌, ℕ, List, [], map, All, IsSome, Option, Some, None, slice_get, position}
use Rattle.gno_codec.specs.declared.item.ShelfItem.{ShelfItem}
use Rattle.gno_codec.specs.Shelf.{IsShelf, shelf_bytes}
use Rattle.shelf_records.specs.Shelved.{AreLegal, Shelved, after_records}
use Rattle.archive_policy.specs.declared.definition.Definition.{Definition}
use Rattle.archive_policy.specs.declared.kind.Kind.{Kind}
use Rattle.series_model.specs.declared.point.Split.{Split}
use Rattle.gno_codec.specs.declared.item.Block.{Block}
use Rattle.shelf_records.specs.Filed.{IsFiled, is_series_of, place_in, splits_of}
use Rattle.shelf_records.specs.Series.{block_of}
use Rattle.shelf_blocks.specs.Blocks.{HoldsSplit}
use Rattle.shelf_blocks.specs.Turns.{HasKeys}
use Rattle.split_store.specs.Damage.{IsOddRecord}

-- A metric of legal records: it has raw chunks exactly where it has a last timestamp, and the keys of its splits
-- are multiples of 3,600 granularities.
pub record IsSound (m : Shelved) : Type 0 where
  pub chunks : IsSome m.last ↔ (m.chunks ≢ [])
  pub keys : All (HasKeys m.policy) m.kept

-- these records are legal ones on a disk of so many bytes, and amount to these metrics
pub record AreRecordsOf (size : ℕ) (metrics : List Shelved) (records : List (List ℕ)) : Type 0 where
  pub items : List ShelfItem
  pub each : All IsShelf items
  pub are : records ≡ map shelf_bytes items
  pub legal : AreLegal size [] items
  pub metrics_are : after_records [] items ≡ metrics

-- these records are legal ones, and these bytes are none behind them
pub record IsOddBehind (size : ℕ) (records : List (List ℕ)) (body : List ℕ) : Type 0 where
  pub items : List ShelfItem
  pub each : All IsShelf items
  pub are : records ≡ map shelf_bytes items
  pub legal : AreLegal size [] items
  pub odd : IsOddRecord size items body

-- The block at which a metric's split with this key is stored holds this one.
pub record IsReadSplit (disk : List ℕ) (definition : ℕ) (kind : Kind) (key : ℕ) (m : Shelved) (split : Split) : Type 0 where
  pub of : Definition
  pub there : slice_get m.policy.definitions definition ≡ Some of
  pub block : Block
  pub stored : block_of key (splits_of definition kind m.kept) ≡ Some block
  pub holds : HoldsSplit disk of.granularity (record { key = key; block = block }) split
  pub exact : (other : Split) → HoldsSplit disk of.granularity (record { key = key; block = block }) other → split ≡ other

-- what was found of a metric's split with this key: none where none is stored, else the one in its block
abbrev pub IsFoundSplit : List ℕ → ℕ → Kind → ℕ → Shelved → Option Split → Type 0
IsFoundSplit disk definition kind key m None = block_of key (splits_of definition kind m.kept) ≡ None
IsFoundSplit disk definition kind key m (Some split) = IsReadSplit disk definition kind key m split

-- a metric is filed, and the place of a definition's and kind's series in it is the one that the policy tells
pub record IsPlacedIn (definition : ℕ) (kind : Kind) (m : Shelved) : Type 0 where
  pub filed : IsFiled m
  pub placed : place_in m.policy definition kind ≡ position (is_series_of definition kind) m.kept

-- What the three disks of a shelf hold.
use Rattle.std.specs.Prelude.{◌≡◌, ℕ, ◌==◌, if◌then◌else◌, List, [], ◌∷◌, length, map, All, Option, Some, None}
use Rattle.series_model.specs.declared.metric.MetricId.{MetricId}
use Rattle.split_update.specs.Live.{Live}
use Rattle.gno_codec.specs.declared.item.ShelfItem.{ShelfItem}
use Rattle.gno_codec.specs.Shelf.{IsShelf, shelf_bytes}
use Rattle.log_pair.specs.declared.place.Place.{Place}
use Rattle.log_pair.specs.Pair.{HoldsPair}
use Rattle.shelf_records.specs.Shelved.{AreLegal, Shelved, after_records}
use Rattle.shelf_blocks.specs.Blocks.{HoldsMetrics}

-- the place of the shelf of a sack: its role is 3, whatever role is given
abbrev pub shelf_place : Place → Place
shelf_place place = record { role = 3; sack = place.sack; sacks = place.sacks }

-- Two disks hold these records, legal ones of a shelf whose blocks stand on a disk of so many bytes, in this
-- epoch.
pub record IsShelfLog (place : Place) (size epoch : ℕ) (items : List ShelfItem) (a b : List ℕ) : Type 0 where
  pub held : HoldsPair (shelf_place place) epoch (map shelf_bytes items) a b
  pub each : All IsShelf items
  pub legal : AreLegal size [] items

-- they hold records that amount to these metrics
pub record HasShelfLog (place : Place) (size epoch : ℕ) (metrics : List Shelved) (a b : List ℕ) : Type 0 where
  pub items : List ShelfItem
  pub log : IsShelfLog place size epoch items a b
  pub metrics_are : metrics ≡ after_records [] items

-- they hold no such records, not even none
abbrev pub HasNoShelfLog : Place → ℕ → List ℕ → List ℕ → Type 0
HasNoShelfLog place size a b = (epoch : ℕ) (items : List ShelfItem) → IsShelfLog place size epoch items a b → ⊥

-- Two disks of a log and one of blocks hold these live metrics: the log that counts spells records of a shelf,
-- in some epoch, and the blocks that are then in use hold what the metrics have.
pub record HoldsShelf (place : Place) (lives : List Live) (a b blocks : List ℕ) : Type 0 where
  pub epoch : ℕ
  pub items : List ShelfItem
  pub log : IsShelfLog place (length blocks) epoch items a b
  pub stand : HoldsMetrics blocks (after_records [] items) lives

-- the live metric with this identifier, if there is one
abbrev pub live_by : MetricId → List Live → Option Live
live_by id [] = None
live_by id (m ∷ lives) = if m.id.0 == id.0 then Some m else live_by id lives

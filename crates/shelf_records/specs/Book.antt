-- The book of the live metrics, and which slots of the disk of blocks it holds.
use Rattle.std.specs.Prelude.{◌≡◌, ℕ, ◌-◌, ◌≤◌, min, List, ◌++◌, length, map, All, Some, slice_get, take, vec_len, vec_capacity, option_to_list}
use Rattle.std.specs.List.{flat_map}
use Rattle.std.specs.List.Sorted.{IsStrictlyIncreasing}
use Rattle.series_model.specs.declared.metric.MetricId.{MetricId}
use Rattle.gno_codec.specs.declared.item.Block.{Block}
use Rattle.gno_codec.specs.declared.item.Change.{Change}
use Rattle.gno_codec.specs.declared.item.CommitItem.{CommitItem}
use Rattle.shelf_records.specs.declared.book.Book.TheInside.{Inside}
use Rattle.shelf_records.specs.Changes.{blocks_of_changes}
use Rattle.shelf_records.specs.Filed.{IsFiled, splits_of}
use Rattle.shelf_records.specs.Series.{block_of}
use Rattle.shelf_records.specs.Shelved.{Kept, Shelved, blocks_in_use, metric_of}
use Rattle.shelf_records.specs.Slots.{AreHeld, IsWithin}

-- the live metrics by rising identifier; the slots that were taken for blocks to come, in order; how many
-- gives are sure of their memory, and how many metrics more
pub record BookView : Type 0 where
  pub metrics : List Shelved
  pub taken : List ℕ
  pub spare : ℕ
  pub room : ℕ

-- where blocks begin
abbrev pub places_of : List Block → List ℕ
places_of blocks = map (λ b. b.at) blocks

-- the blocks of the splits of each definition and kind
abbrev pub blocks_of_kept : List Kept → List Block
blocks_of_kept kept = flat_map (λ k. map (λ s. s.block) k.splits) kept

-- the blocks of a commit, in order
abbrev pub new_blocks : CommitItem → List Block
new_blocks c = c.chunks ++ blocks_of_changes c.changes

-- the blocks that changes of a metric move away from or drop
abbrev pub changed_blocks : Shelved → List Change → List Block
changed_blocks m changes =
    flat_map (λ c. option_to_list (block_of c.key (splits_of c.definition c.kind m.kept))) changes

-- the blocks that a commit of a metric frees
abbrev pub freed_blocks : Shelved → List Change → List Block
freed_blocks m changes = m.chunks ++ changed_blocks m changes

-- where a metric stands among others
pub record IsPlaceOf (id : MetricId) (metrics : List Shelved) (place : ℕ) : Type 0 where
  pub metric : Shelved
  pub there : slice_get metrics place ≡ Some metric
  pub found : metric_of id metrics ≡ Some metric
  pub same : metric.id ≡ id

-- what contracts see of a book
abbrev pub book_view : Inside → BookView
book_view b = record {
  metrics = b.metrics.items;
  taken = b.taken.items;
  spare = b.used.spare;
  room = min (vec_capacity b.metrics - vec_len b.metrics) (vec_capacity b.ids - vec_len b.ids);
}

-- the identifiers are those of the metrics and rise; the slots that are held are those of the blocks in use
-- and those that were taken
pub record IsBook (b : Inside) : Type 0 where
  pub ids : b.ids.items ≡ map (λ m. m.id) b.metrics.items
  pub rising : IsStrictlyIncreasing (map (λ m. m.id.0) b.metrics.items)
  pub filed : All IsFiled b.metrics.items
  pub within : b.held ≤ length b.taken.items
  pub all : All IsWithin b.taken.items → b.held ≡ length b.taken.items
  pub held : AreHeld (take b.held b.taken.items ++ places_of (blocks_in_use b.metrics.items)) b.used

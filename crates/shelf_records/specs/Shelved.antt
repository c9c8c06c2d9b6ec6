-- What the records of a shelf's log amount to: the live metrics, with where their series are stored.
use Rattle.std.specs.Prelude.{◌≡◌, ◌≢◌, ◌↔◌, ℕ, ◌+◌, ◌%◌, ◌≤◌, ◌==◌, ◌&&◌, nat_lt, not, if◌then◌else◌, Bool, List, [], ◌∷◌, ◌++◌, map, All, AllPairs, Contains, Option, None, Some, IsSome}
use Rattle.std.specs.List.{filter, flat_map, slice_get}
use Rattle.archive_policy.specs.declared.definition.Definition.{Definition}
use Rattle.archive_policy.specs.declared.kind.Kind.{Kind}
use Rattle.archive_policy.specs.Kinds.{kind_index}
use Rattle.archive_policy.specs.Policies.{ArchivePolicy}
use Rattle.series_model.specs.declared.measure.Measure.{Measure}
use Rattle.series_model.specs.declared.metric.MetricId.{MetricId}
use Rattle.series_model.specs.Stored.{split_span}
use Rattle.gno_codec.specs.declared.item.Block.{Block}
use Rattle.gno_codec.specs.declared.item.Change.{Change}
use Rattle.gno_codec.specs.declared.item.CommitItem.{CommitItem}
use Rattle.gno_codec.specs.declared.item.ShelfItem.{ShelfItem}
use Rattle.gno_codec.specs.declared.item.ShelfItem.TheVariants as items
use Rattle.shelf_records.specs.declared.moves.Move.{Move}
use Rattle.shelf_records.specs.declared.series.Stored.{Stored}
use Rattle.shelf_records.specs.Series.{after_moves}

-- the stored splits of a definition, by its place in the policy, and a kind
pub record Kept : Type 0 where
  pub definition : ℕ
  pub kind : Kind
  pub splits : List Stored

-- a live metric by the records since it was registered: its policy, its done number, the greatest accepted
-- timestamp, the measure before the window, where the chunks of its raw series are, and its splits
pub record Shelved : Type 0 where
  pub id : MetricId
  pub policy : ArchivePolicy
  pub done : ℕ
  pub last : Option ℕ
  pub anchor : Option Measure
  pub chunks : List Block
  pub kept : List Kept

-- for each definition from a place on and, within it, each kind, no splits
abbrev pub none_kept : List Kind → ℕ → List Definition → List Kept
none_kept kinds place [] = []
none_kept kinds place (d ∷ definitions) =
    map (λ kind. record { definition = place; kind = kind; splits = [] }) kinds ++ none_kept kinds (place + 1) definitions

-- a metric as it is registered
abbrev pub registered : MetricId → ℕ → ArchivePolicy → Shelved
registered id done policy = record {
  id = id;
  policy = policy;
  done = done;
  last = None;
  anchor = None;
  chunks = [];
  kept = none_kept policy.kinds 0 policy.definitions;
}

-- a change is of this definition and kind
abbrev pub is_change_of : Kept → Change → Bool
is_change_of kept c = c.definition == kept.definition && kind_index c.kind == kind_index kept.kind

-- a change as a move
abbrev pub move_of : Change → Move
move_of c = record { key = c.key; block = c.block }

-- the splits after the changes of a commit
abbrev pub kept_after : List Change → Kept → Kept
kept_after changes kept =
    record kept { splits = after_moves (map move_of (filter (is_change_of kept) changes)) kept.splits }

-- a metric after a commit
abbrev pub committed : CommitItem → Shelved → Shelved
committed c m = record {
  id = m.id;
  policy = m.policy;
  done = c.done;
  last = c.last;
  anchor = c.anchor;
  chunks = c.chunks;
  kept = map (kept_after c.changes) m.kept;
}

-- the metric with this identifier, if it is live
abbrev pub metric_of : MetricId → List Shelved → Option Shelved
metric_of id [] = None
metric_of id (m ∷ metrics) = if m.id.0 == id.0 then Some m else metric_of id metrics

-- the live metrics, by rising identifier, after a record
abbrev pub after_record : List Shelved → ShelfItem → List Shelved
after_record metrics (items.Register id done policy) =
    filter (λ m. nat_lt m.id.0 id.0) metrics ++ (registered id done policy ∷ filter (λ m. nat_lt id.0 m.id.0) metrics)
after_record metrics (items.Commit c) = map (λ m. if m.id.0 == c.metric.0 then committed c m else m) metrics
after_record metrics (items.Drop id) = filter (λ m. not (m.id.0 == id.0)) metrics

-- ---- which records may follow

-- a change of a split of the policy: its key is a multiple of 3,600 granularities
pub record IsOfPolicy (policy : ArchivePolicy) (c : Change) : Type 0 where
  pub definition : Definition
  pub there : slice_get policy.definitions c.definition ≡ Some definition
  pub kind : Contains policy.kinds c.kind
  pub key : c.key % split_span definition.granularity ≡ 0

-- a commit of a metric: its changes are of its policy, and it has raw chunks exactly where it has a last
-- timestamp
pub record FitsMetric (c : CommitItem) (m : Shelved) : Type 0 where
  pub changes : All (IsOfPolicy m.policy) c.changes
  pub chunks : IsSome c.last ↔ (c.chunks ≢ [])

-- a record of these metrics: one is registered that isn't live, or a live one is committed or dropped
abbrev pub MayFollow : List Shelved → ShelfItem → Type 0
MayFollow metrics (items.Register id done policy) = metric_of id metrics ≡ None
MayFollow metrics (items.Commit c) = (m : Shelved) × (metric_of c.metric metrics ≡ Some m) × FitsMetric c m
MayFollow metrics (items.Drop id) = IsSome (metric_of id metrics)

-- ---- blocks in use

-- the length of the stretch of a block
abbrev pub slot : ℕ
slot = 98304

-- the blocks of a metric: of its raw chunks, and of its splits
abbrev pub blocks_of_metric : Shelved → List Block
blocks_of_metric m = m.chunks ++ flat_map (λ k. map (λ s. s.block) k.splits) m.kept

-- all blocks in use
abbrev pub blocks_in_use : List Shelved → List Block
blocks_in_use metrics = flat_map blocks_of_metric metrics

-- a block stands in a slot of its own size on a disk of so many bytes
pub record IsInSlot (size : ℕ) (block : Block) : Type 0 where
  pub begins : block.at % slot ≡ 0
  pub short : block.len ≤ slot
  pub within : block.at + slot ≤ size

-- the blocks in use lie within the disk, and no two of them in one slot
pub record AreBlocks (size : ℕ) (metrics : List Shelved) : Type 0 where
  pub each : All (IsInSlot size) (blocks_in_use metrics)
  pub apart : AllPairs (λ (b c : Block). b.at ≢ c.at) (blocks_in_use metrics)

-- these records, one after another, are of a shelf whose metrics are these before them
abbrev pub AreLegal : ℕ → List Shelved → List ShelfItem → Type 0
AreLegal size metrics [] = Unit {0}
AreLegal size metrics (item ∷ records) =
    MayFollow metrics item × AreBlocks size (after_record metrics item) × AreLegal size (after_record metrics item) records

-- the metrics after all of these records
abbrev pub after_records : List Shelved → List ShelfItem → List Shelved
after_records metrics [] = metrics
after_records metrics (item ∷ records) = after_records (after_record metrics item) records

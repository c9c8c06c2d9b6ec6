-- What a shelf keeps of a metric that a query is of, and why its splits weren't read.
use Rattle.std.specs.Prelude.{◌≡◌, ℕ, ◌≤◌, if◌then◌else◌, List, [], map, All, Contains, Some, true, false}
use Rattle.std.specs.List.Sorted.{IsStrictlyIncreasing}
use Rattle.gno_num.specs.Faults.{Rose}
use Rattle.gno_disk.specs.declared.disk.Disk.{Ghosts}
use Rattle.gate_log.specs.LogView.{MatchMountFault}
use Rattle.gate_log.specs.declared.fault.MountFault.{MountFault}
use Rattle.archive_policy.specs.declared.definition.Definition.{Definition}
use Rattle.archive_policy.specs.declared.kind.Kind.{Kind}
use Rattle.archive_policy.specs.Policies.{ArchivePolicy}
use Rattle.series_model.specs.declared.answer.Row.{Row}
use Rattle.series_model.specs.declared.measure.Measure.{Measure}
use Rattle.series_model.specs.declared.metric.MetricId.{MetricId}
use Rattle.series_model.specs.declared.point.Point.{Point}
use Rattle.series_model.specs.declared.query.Query.{Query}
use Rattle.series_model.specs.Answer.{oldest_point_of}
use Rattle.series_model.specs.Points.{points_from}
use Rattle.series_model.specs.Query.{is_named, rows_wanted}
use Rattle.series_model.specs.Stored.{oldest_key_of, splits_of}
use Rattle.series_model.specs.Tail.{accepted_under}
use Rattle.split_update.specs.Live.{Live, live_from_scratch}
use Rattle.shelf_records.specs.Shelved.{Shelved}
use Rattle.split_store.specs.Damage.{HasOddSplit}
use Rattle.split_store.specs.Shelf.{live_by}
use Rattle.split_store.specs.ShelfView.{HasDamage, Keeps, ShelfView, shelf_faults, split_with, stored_split}
use Rattle.shelf_query.specs.declared.split.SeriesAt.{SeriesAt}

-- The shelf keeps a metric as it is from scratch, by batches of which its policy accepted these measures; the
-- kind is one of the policy's.
pub record KeepsAccepted {D : Type 0} (g : Ghosts D) (v : ShelfView D) (metric : MetricId) (kind : Kind) (policy : ArchivePolicy) (accepted : List Measure) : Type 0 where
  pub lives : List Live
  pub keeps : Keeps g v lives
  pub done : ℕ
  pub batches : List (List Measure)
  pub live : live_by metric lives ≡ Some (live_from_scratch metric policy done batches)
  pub accepted_is : accepted ≡ accepted_under policy batches
  pub kind_is : Contains policy.kinds kind

-- The shelf keeps these points of a series, those from the oldest key on, in the splits that they are cut into. The
-- points rise, and none is behind the greatest accepted timestamp.
pub record KeepsPoints {D : Type 0} (g : Ghosts D) (v : ShelfView D) (s : SeriesAt) (last : ℕ) (points : List Point) : Type 0 where
  pub lives : List Live
  pub keeps : Keeps g v lives
  pub stored : (key : ℕ) → stored_split s.metric s.place s.kind key lives ≡ split_with key (splits_of s.definition.granularity (points_from (oldest_key_of last s.definition) points))
  pub rising : IsStrictlyIncreasing (map (λ p. p.at) points)
  pub until : All (λ p. p.at ≤ last) points

-- the rows that a query wants of a definition with these points; none where its granularity isn't asked for
abbrev pub rows_asked : Query → Definition → ℕ → List Point → List Row
rows_asked query d last points =
    if is_named query.granularity d.granularity then rows_wanted query d.granularity (oldest_point_of last d) points else []

-- at this place one of a metric's splits of a kind is stored, and the block holds no split of its key
pub record HasOddSplitOf (metrics : List Shelved) (id : MetricId) (kind : Kind) (disk : List ℕ) (at : ℕ) : Type 0 where
  pub definition : ℕ
  pub key : ℕ
  pub odd : HasOddSplit metrics id definition kind key disk at

-- a disk failed, and the shelf is broken
pub record HasRisenBroken {D : Type 0} (g : Ghosts D) (old new : ShelfView D) : Type 0 where
  pub rose : Rose (shelf_faults g old) (shelf_faults g new)
  pub broken : new.broken ≡ true

-- why some splits weren't read, whatever a fault of a disk says of the counts: a disk, damage, or memory
abbrev pub IsReadCause : {D : Type 0} → Ghosts D → (List ℕ → ℕ → Type 0) → ShelfView D → ShelfView D → MountFault → Type 0
IsReadCause g IsDamage old new e = MatchMountFault e (λ f. HasRisenBroken g old new) (HasDamage g IsDamage old new) (new.broken ≡ false)

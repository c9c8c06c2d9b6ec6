-- Jobs, and what a worker prepares for them.
use Rattle.std.specs.Prelude.{◌≡◌, ℕ, ◌+◌, ◌*◌, ◌%◌, ◌==◌, ◌≤◌, List, [], ◌++◌, map, length, drop, position, All, Contains, Option, Some, None, slice_get, slice_index_or}
use Rattle.std.specs.List.Sorted.{IsStrictlyIncreasing}
use Rattle.gno_num.specs.Floor.{floor_of}
use Rattle.archive_policy.specs.declared.kind.Kind.{Kind}
use Rattle.archive_policy.specs.declared.definition.Definition.{Definition}
use Rattle.archive_policy.specs.Kinds.{kind_index}
use Rattle.archive_policy.specs.Policies.{ArchivePolicy}
use Rattle.series_model.specs.declared.measure.Measure.{Measure}
use Rattle.series_model.specs.declared.metric.MetricId.{MetricId}
use Rattle.series_model.specs.declared.point.Point.{Point}
use Rattle.series_model.specs.declared.ticket.Ticket.{Ticket}
use Rattle.series_model.specs.Points.{points_of, points_from}
use Rattle.series_model.specs.Series.{series_of_measures}
use Rattle.series_model.specs.Tail.{Tail, accepted_under, kept_window}
use Rattle.bound_series.specs.Turn.{earliest}

-- the work of one claim: its ticket, the metric with its policy, the kept window that it begins with,
-- the batches to process, and the number of the last of them
pub record JobView : Type 0 where
  pub ticket : Ticket
  pub metric : MetricId
  pub policy : ArchivePolicy
  pub base : Tail
  pub batches : List (List Measure)
  pub upto : ℕ

-- the prepared work of a job: the window that it leaves, the new points, one list for each definition
-- and, within it, each kind, and the least timestamp that it accepted
pub record PreparedView : Type 0 where
  pub job : JobView
  pub raw : Tail
  pub points : List (List Point)
  pub from : Option ℕ

-- the place of a kind among others, where it is one of them
abbrev pub place_in : List Kind → Kind → Option ℕ
place_in kinds kind = position (λ k. kind_index k == kind_index kind) kinds

-- the list for the definition and the kind at these places, where each definition has so many kinds;
-- the empty list where the kind has no place, or beyond the lists
abbrev pub list_at : List (List Point) → ℕ → ℕ → Option ℕ → List Point
list_at points kinds definition None = []
list_at points kinds definition (Some place) = slice_index_or points (definition * kinds + place) []

-- the new points of a kind for the definition at this place
abbrev pub points_for : PreparedView → ℕ → Kind → List Point
points_for p definition kind =
    list_at p.points (length p.job.policy.kinds) definition (place_in p.job.policy.kinds kind)

-- New points of a granularity: they rise, lie at multiples of it, and none is before the bucket of the
-- least timestamp that was accepted; there is none where none was.
pub record AreNew (granularity : ℕ) (from : Option ℕ) (points : List Point) : Type 0 where
  pub rising : IsStrictlyIncreasing (map (λ p. p.at) points)
  pub multiples : All (λ p. p.at % granularity ≡ 0) points
  pub late : (first : ℕ) → from ≡ Some first → All (λ p. floor_of first granularity ≤ p.at) points
  pub none : from ≡ None → points ≡ []

-- what regrouping from the bucket of a time on gives, where there is one
abbrev pub regrouped : Kind → ℕ → List Measure → Option ℕ → List Point
regrouped kind granularity series None = []
regrouped kind granularity series (Some from) =
    points_from (floor_of from granularity) (points_of kind granularity series)

-- The prepared work is what grouping from scratch gives, where these batches were processed before the
-- job's: the window after all of them, the least timestamp of the job's that was accepted, and all
-- points from its bucket on.
pub record IsFromScratch (p : PreparedView) (before : List (List Measure)) : Type 0 where
  pub raw : p.raw ≡ kept_window p.job.policy (accepted_under p.job.policy (before ++ p.job.batches))
  pub from : p.from ≡ earliest (drop (length (accepted_under p.job.policy before)) (accepted_under p.job.policy (before ++ p.job.batches)))
  pub points : (i : ℕ) (d : Definition) (kind : Kind) → slice_get p.job.policy.definitions i ≡ Some d → Contains p.job.policy.kinds kind → points_for p i kind ≡ regrouped kind d.granularity (series_of_measures (accepted_under p.job.policy (before ++ p.job.batches))) p.from

-- What is prepared for a job. Whatever its base is, there are new points for each definition and kind;
-- where the base is the kept window of some batches, all is as from scratch.
pub record IsPrepared (p : PreparedView) : Type 0 where
  pub number : length p.points ≡ length p.job.policy.definitions * length p.job.policy.kinds
  pub new : (i : ℕ) (d : Definition) (kind : Kind) → slice_get p.job.policy.definitions i ≡ Some d → Contains p.job.policy.kinds kind → AreNew d.granularity p.from (points_for p i kind)
  pub from_scratch : (before : List (List Measure)) → p.job.base ≡ kept_window p.job.policy (accepted_under p.job.policy before) → IsFromScratch p before

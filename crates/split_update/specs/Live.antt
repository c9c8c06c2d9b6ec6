-- A live metric as it is kept, and what a turn makes of it.
use Rattle.std.specs.Prelude.{ℕ, List, [], ◌∷◌, map, Option}
use Rattle.std.specs.List.{flat_map}
use Rattle.archive_policy.specs.declared.definition.Definition.{Definition}
use Rattle.archive_policy.specs.declared.kind.Kind.{Kind}
use Rattle.archive_policy.specs.Policies.{ArchivePolicy}
use Rattle.series_model.specs.declared.measure.Measure.{Measure}
use Rattle.series_model.specs.declared.metric.MetricId.{MetricId}
use Rattle.series_model.specs.declared.point.Point.{Point}
use Rattle.series_model.specs.declared.point.Split.{Split}
use Rattle.series_model.specs.Stored.{stored_of}
use Rattle.series_model.specs.Tail.{Tail, accepted_under, kept_window}
use Rattle.bound_series.specs.Jobs.{PreparedView}
use Rattle.split_update.specs.Update.{oldest_by, splits_after}

-- a metric with its policy, its done number, its kept window, and its splits: a list for each definition of
-- the policy and, within it, each kind
pub record Live : Type 0 where
  pub id : MetricId
  pub policy : ArchivePolicy
  pub done : ℕ
  pub raw : Tail
  pub splits : List (List Split)

-- what one list of splits is of
pub record SeriesOf : Type 0 where
  pub definition : Definition
  pub kind : Kind

-- each definition of a policy and, within it, each kind
abbrev pub series_under : ArchivePolicy → List SeriesOf
series_under policy =
    flat_map (λ d. map (λ kind. record { definition = d; kind = kind }) policy.kinds) policy.definitions

-- what a turn leaves of the splits of each definition and kind, by its greatest and its least accepted
-- timestamp and its new points
abbrev pub all_splits_after : List SeriesOf → Option ℕ → Option ℕ → List (List Point) → List (List Split) → List (List Split)
all_splits_after [] last from points old = []
all_splits_after (s ∷ series) last from [] old = []
all_splits_after (s ∷ series) last from (new ∷ points) [] = []
all_splits_after (s ∷ series) last from (new ∷ points) (splits ∷ old) =
    splits_after s.definition.granularity (oldest_by s.definition last) from new splits
    ∷ all_splits_after series last from points old

-- a metric once the prepared work of a job is committed
abbrev pub after_commit : PreparedView → Live → Live
after_commit p m = record {
  id = m.id;
  policy = m.policy;
  done = p.job.upto;
  raw = p.raw;
  splits = all_splits_after (series_under m.policy) p.raw.last p.from p.points m.splits;
}

-- the splits of each definition and kind that grouping from scratch stores
abbrev pub all_stored : ArchivePolicy → List Measure → List (List Split)
all_stored policy accepted = map (λ (s : SeriesOf). stored_of s.kind s.definition accepted) (series_under policy)

-- a metric as it is from scratch, by all of its batches that were processed
abbrev pub live_from_scratch : MetricId → ArchivePolicy → ℕ → List (List Measure) → Live
live_from_scratch id policy done batches = record {
  id = id;
  policy = policy;
  done = done;
  raw = kept_window policy (accepted_under policy batches);
  splits = all_stored policy (accepted_under policy batches);
}

-- What turns leave, and the points that follow from them.
use Rattle.std.specs.Prelude.{◌≡◌, ℕ, ◌≤◌, List, length, drop, map, Option, Some}
use Rattle.std.specs.List.{filter_map, flat_map}
use Rattle.archive_policy.specs.declared.definition.Definition.{Definition}
use Rattle.archive_policy.specs.declared.kind.Kind.{Kind}
use Rattle.archive_policy.specs.Policies.{ArchivePolicy}
use Rattle.bound_series.specs.Jobs.{regrouped}
use Rattle.bound_series.specs.Turn.{earliest}
use Rattle.series_model.specs.declared.measure.Measure.{Measure}
use Rattle.series_model.specs.declared.point.Point.{Point}
use Rattle.series_model.specs.Accepted.{latest}
use Rattle.series_model.specs.Points.{point_at}
use Rattle.series_model.specs.Tail.{Tail, accepted_after, accepts_from, tail_of}
use Rattle.regroup.specs.declared.tallies.BucketTally.{BucketTally}
use Rattle.regroup.specs.Tallies.{bucket_tally}

-- These batches took their turns behind what was accepted, of which the tail from a cut on was kept:
-- the tail of all of it is there now, whose cut is no later than the window, and the least timestamp
-- that was newly accepted, which isn't before the cut.
pub record AreTaken (policy : ArchivePolicy) (cut : ℕ) (accepted : List Measure) (batches : List (List Measure)) (raw : Tail) (from : Option ℕ) : Type 0 where
  pub kept : raw ≡ tail_of cut (accepted_after policy accepted batches)
  pub window : cut ≤ accepts_from policy (latest (accepted_after policy accepted batches))
  pub least : from ≡ earliest (drop (length accepted) (accepted_after policy accepted batches))
  pub late : (at : ℕ) → from ≡ Some at → cut ≤ at

-- the points of each kind of one granularity, from the bucket of a time on
abbrev pub lists_for : List Kind → ℕ → List Measure → Option ℕ → List (List Point)
lists_for kinds granularity members from = map (λ kind. regrouped kind granularity members from) kinds

-- the points of each definition and, within it, each kind
abbrev pub lists_of : List Kind → List Measure → Option ℕ → List Definition → List (List Point)
lists_of kinds members from definitions = flat_map (λ d. lists_for kinds d.granularity members from) definitions

-- Tallies from which the points from the bucket of a time on are made, of every kind: they are those
-- of the buckets that begin at some starts, among some members.
pub record Gives (granularity : ℕ) (members : List Measure) (from : Option ℕ) (tallies : List BucketTally) : Type 0 where
  pub among : List Measure
  pub starts : List ℕ
  pub tallied : tallies ≡ map (bucket_tally granularity among) starts
  pub points : (kind : Kind) → filter_map (point_at kind granularity among) starts ≡ regrouped kind granularity members from

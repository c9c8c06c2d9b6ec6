-- Splits: how the points of a series are stored.
use Rattle.std.specs.Prelude.{◌≡◌, ◌↔◌, ℕ, ◌+◌, ◌*◌, ◌%◌, ◌<◌, ◌≤◌, nat_le, nat_lt, ◌&&◌, List, [], map, length, Option, Some, None, IfSome}
use Rattle.std.specs.List.{filter, Contains}
use Rattle.std.specs.List.Sorted.{IsStrictlyIncreasing}
use Rattle.gno_num.specs.Floor.{split_key_of}
use Rattle.archive_policy.specs.declared.kind.Kind.{Kind}
use Rattle.archive_policy.specs.declared.definition.Definition.{Definition}
use Rattle.series_model.specs.declared.measure.Measure.{Measure}
use Rattle.series_model.specs.declared.point.Point.{Point}
use Rattle.series_model.specs.declared.point.Split.{Split}
use Rattle.series_model.specs.Accepted.{latest}
use Rattle.series_model.specs.Answer.{oldest_point_of}
use Rattle.series_model.specs.Points.{starts_of, points_of, points_from, IsPoint, ArePoints}
use Rattle.series_model.specs.Series.{series_of_measures}

-- how long the stretch of a split is: 3,600 buckets
abbrev pub split_span : ℕ → ℕ
split_span granularity = 3600 * granularity

-- the key of the split that holds the oldest point to keep
abbrev pub oldest_key_of : ℕ → Definition → ℕ
oldest_key_of last d = split_key_of (oldest_point_of last d) d.granularity

-- the split with this key of these points
abbrev pub split_at : ℕ → List Point → ℕ → Split
split_at granularity points key = record {
  key = key;
  points = filter (λ p. nat_le key p.at && nat_lt p.at (key + split_span granularity)) points;
}

-- the splits of these points, by key
abbrev pub splits_of : ℕ → List Point → List Split
splits_of granularity points =
    map (split_at granularity points) (starts_of (split_span granularity) (map (λ p. p.at) points))

-- the splits from the oldest key on; none where nothing was accepted
abbrev pub splits_until : Kind → Definition → List Measure → Option ℕ → List Split
splits_until kind d series None = []
splits_until kind d series (Some last) =
    splits_of d.granularity (points_from (oldest_key_of last d) (points_of kind d.granularity series))

-- the stored splits of a kind and definition, by all measures that were accepted
abbrev pub stored_of : Kind → Definition → List Measure → List Split
stored_of kind d accepted = splits_until kind d (series_of_measures accepted) (latest accepted)

-- A stored split: its key is a multiple of 3,600 granularities and not before the oldest key, and it
-- has exactly the points of its stretch, of which there is one.
pub record IsStoredSplit (kind : Kind) (d : Definition) (accepted : List Measure) (split : Split) : Type 0 where
  pub key : split.key % split_span d.granularity ≡ 0
  pub kept : IfSome (latest accepted) (λ last. oldest_key_of last d ≤ split.key)
  pub points : ArePoints (λ point. IsPoint kind d.granularity (series_of_measures accepted) point × (split.key ≤ point.at) × (point.at < split.key + split_span d.granularity)) split.points
  pub some : 0 < length split.points

-- the stored splits by key, and no others; so no two share a point
pub record AreStoredSplits (kind : Kind) (d : Definition) (accepted : List Measure) (splits : List Split) : Type 0 where
  pub rising : IsStrictlyIncreasing (map (λ split. split.key) splits)
  pub members : (split : Split) → Contains splits split ↔ IsStoredSplit kind d accepted split

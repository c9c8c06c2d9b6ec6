-- What a turn leaves of the splits of one definition and kind.
use Rattle.std.specs.Prelude.{◌≡◌, ℕ, ◌+◌, ◌%◌, ◌==◌, ◌<◌, ◌≤◌, nat_le, nat_lt, List, [], ◌++◌, map, length, All, Option, Some, None}
use Rattle.std.specs.Option.{option_map}
use Rattle.std.specs.List.{filter, flat_map}
use Rattle.std.specs.List.Sorted.{IsStrictlyIncreasing}
use Rattle.gno_num.specs.Floor.{floor_of, split_key_of}
use Rattle.archive_policy.specs.declared.definition.Definition.{Definition}
use Rattle.series_model.specs.declared.point.Point.{Point}
use Rattle.series_model.specs.declared.point.Split.{Split}
use Rattle.series_model.specs.Points.{points_from}
use Rattle.series_model.specs.Stored.{oldest_key_of, split_span, splits_of}

-- the points before a time
abbrev pub points_before : ℕ → List Point → List Point
points_before until points = filter (λ p. nat_lt p.at until) points

-- the points of splits, one split after another
abbrev pub points_in : List Split → List Point
points_in splits = flat_map (λ s. s.points) splits

-- the points that aren't before the oldest key, where there is one
abbrev pub points_since : Option ℕ → List Point → List Point
points_since None points = points
points_since (Some oldest) points = points_from oldest points

-- the oldest key of a definition, by the greatest accepted timestamp, where there is one
abbrev pub oldest_by : Definition → Option ℕ → Option ℕ
oldest_by d last = option_map (λ at. oldest_key_of at d) last

-- the splits that aren't before the oldest key, where there is one
abbrev pub splits_from : Option ℕ → List Split → List Split
splits_from None splits = splits
splits_from (Some oldest) splits = filter (λ s. nat_le oldest s.key) splits

-- the splits before the one that holds a time
abbrev pub splits_before : ℕ → ℕ → List Split → List Split
splits_before granularity at splits = filter (λ s. nat_lt s.key (split_key_of at granularity)) splits

-- the points of the split that holds a time
abbrev pub points_beside : ℕ → ℕ → List Split → List Point
points_beside granularity at splits = points_in (filter (λ s. s.key == split_key_of at granularity) splits)

-- The old splits that a turn leaves as they are: those before the one that holds the least timestamp that
-- it accepted, all where it accepted nothing.
abbrev pub splits_kept : ℕ → Option ℕ → List Split → List Split
splits_kept granularity None old = old
splits_kept granularity (Some from) old = splits_before granularity from old

-- The splits that it makes: from the bucket of that timestamp on the new points, in front of them the
-- points of the old split that holds it.
abbrev pub splits_made : ℕ → Option ℕ → List Point → List Point → List Split
splits_made granularity None points beside = []
splits_made granularity (Some from) points beside =
    splits_of granularity (points_before (floor_of from granularity) beside ++ points)

-- the points of the old split that holds the least timestamp, where there is one
abbrev pub points_touched : ℕ → Option ℕ → List Split → List Point
points_touched granularity None old = []
points_touched granularity (Some from) old = points_beside granularity from old

-- What a turn leaves of the old splits. What is before the oldest key is gone.
abbrev pub splits_after : ℕ → Option ℕ → Option ℕ → List Point → List Split → List Split
splits_after granularity oldest from points old =
    splits_from oldest (splits_kept granularity from old)
    ++ splits_from oldest (splits_made granularity from points (points_touched granularity from old))

-- all points once a turn has put its own in place of the old ones, from its bucket on
abbrev pub points_after : ℕ → Option ℕ → List Point → List Point → List Point
points_after granularity None points old = old
points_after granularity (Some from) points old = points_before (floor_of from granularity) old ++ points

-- a point stands in the stretch of a key, at the begin of a bucket
pub record IsInStretch (granularity key : ℕ) (point : Point) : Type 0 where
  pub from : key ≤ point.at
  pub until : point.at < key + split_span granularity
  pub multiple : point.at % granularity ≡ 0

-- a split: its key is a multiple of 3,600 granularities, and it has points of its stretch, by rising time
pub record IsWellFormed (granularity : ℕ) (split : Split) : Type 0 where
  pub key : split.key % split_span granularity ≡ 0
  pub some : 0 < length split.points
  pub rising : IsStrictlyIncreasing (map (λ p. p.at) split.points)
  pub placed : All (IsInStretch granularity split.key) split.points

-- splits by rising key
pub record AreSplits (granularity : ℕ) (splits : List Split) : Type 0 where
  pub each : All (IsWellFormed granularity) splits
  pub rising : IsStrictlyIncreasing (map (λ s. s.key) splits)

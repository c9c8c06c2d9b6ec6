-- The points of splits, and rows behind others.
use Rattle.std.specs.Prelude.{◌≡◌, ℕ, nat_le, Bool, ◌&&◌, List, ◌++◌, map, take, Option}
use Rattle.std.specs.List.{flat_map}
use Rattle.std.specs.List.Sorted.{IsStrictlyIncreasing}
use Rattle.series_model.specs.declared.answer.Row.{Row}
use Rattle.series_model.specs.declared.point.Point.{Point}
use Rattle.series_model.specs.declared.point.Split.{Split}
use Rattle.series_model.specs.Query.{is_until}

-- the points of all splits, one split after the other
abbrev pub points_in : List Split → List Point
points_in splits = flat_map (λ (split : Split). split.points) splits

-- the times of points rise strictly
abbrev pub AreRising : List Point → Type 0
AreRising points = IsStrictlyIncreasing (map (λ (p : Point). p.at) points)

-- a point isn't before the first time, and is before the stop, where one is given
abbrev pub is_between : ℕ → Option ℕ → Point → Bool
is_between first stop p = nat_le first p.at && is_until stop p.at

-- behind the old rows stand the first so many of these
abbrev pub AddsFront : List Row → List Row → List Row → Type 0
AddsFront rows old new = (count : ℕ) × (new ≡ old ++ take count rows)

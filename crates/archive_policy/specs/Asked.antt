-- What a definition that is asked for comes to.
use Rattle.std.specs.Prelude.{ℕ, ◌+◌, ◌*◌, ◌/◌, ◌%◌, ◌^◌, ◌==◌, nat_lt, Bool, false, not, ◌&&◌, ◌||◌, max, min, List, [], ◌∷◌, Option, Some, None, is_some, unwrap_or}
use Rattle.std.specs.List.{filter, list_any}
use Rattle.archive_policy.specs.declared.definition.Definition.{Definition}
use Rattle.archive_policy.specs.declared.wanted.Wanted.{Wanted}

-- 1 for what is given
abbrev pub one_given : Option ℕ → ℕ
one_given None = 0
one_given (Some n) = 1

-- how many of granularity, points and timespan are given
abbrev pub given_count : Wanted → ℕ
given_count w = one_given w.granularity + one_given w.points + one_given w.timespan

-- the granularity: as given, else the timespan over the points; 0 where neither can be had
abbrev pub granularity_of : Wanted → ℕ
granularity_of w = unwrap_or w.granularity (unwrap_or w.timespan 0 / unwrap_or w.points 0)

-- the points: as given, else the timespan over the granularity, rounded down; 0 where neither can be had
abbrev pub points_of : Wanted → ℕ
points_of w = unwrap_or w.points (unwrap_or w.timespan 0 / unwrap_or w.granularity 0)

-- the granularity and the points of a definition that is asked for
abbrev pub definition_of : Wanted → Definition
definition_of w = record { granularity = granularity_of w; points = points_of w }

-- fewer than two of the three are given
abbrev pub has_too_few : Wanted → Bool
has_too_few w = nat_lt (given_count w) 2

-- there are no points
abbrev pub has_no_points : Wanted → Bool
has_no_points w = points_of w == 0

-- points and timespan are given, and the timespan isn't the granularity times the points
abbrev pub has_mismatch : Wanted → Bool
has_mismatch w =
    is_some w.points && (is_some w.timespan && not (granularity_of w * points_of w == unwrap_or w.timespan 0))

-- the granularity is below a millisecond or over 30 days
abbrev pub has_odd_granularity : Wanted → Bool
has_odd_granularity w = nat_lt (granularity_of w) (10 ^ 6) || nat_lt (2592000 * 10 ^ 9) (granularity_of w)

-- there are over 1,000,000 points, or they take longer than the time that there is
abbrev pub has_many_points : Wanted → Bool
has_many_points w = nat_lt 1000000 (points_of w) || nat_lt (9 * 10 ^ 18) (granularity_of w * points_of w)

-- the largest of these granularities
abbrev pub largest : List ℕ → ℕ
largest [] = 0
largest (g ∷ gs) = max g (largest gs)

-- the lesser of a granularity and another one, where there is one
abbrev pub lesser : ℕ → Option ℕ → ℕ
lesser g None = g
lesser g (Some other) = min g other

-- the least of these granularities, where there is one
abbrev pub least : List ℕ → Option ℕ
least [] = None
least (g ∷ gs) = Some (lesser g (least gs))

-- a granularity doesn't divide another
abbrev pub leaves_rest : ℕ → ℕ → Bool
leaves_rest coarse fine = not (coarse % fine == 0)

-- the least of these granularities that doesn't divide the largest, where there is one
abbrev pub not_dividing : List ℕ → Option ℕ
not_dividing gs = least (filter (leaves_rest (largest gs)) gs)

-- a granularity stands twice
abbrev pub has_same : List ℕ → Bool
has_same [] = false
has_same (g ∷ gs) = list_any (λ other. other == g) gs || has_same gs

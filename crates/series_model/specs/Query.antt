-- What a query asks for, and its answer over the definitions of a policy.
use Rattle.std.specs.Prelude.{ℕ, ◌==◌, nat_le, nat_lt, ◌&&◌, Bool, true, List, [], map, reverse, Option, Some, None}
use Rattle.std.specs.List.{filter, flat_map}
use Rattle.gno_num.specs.Floor.{floor_of}
use Rattle.archive_policy.specs.declared.kind.Kind.{Kind}
use Rattle.archive_policy.specs.declared.definition.Definition.{Definition}
use Rattle.archive_policy.specs.Policies.{ArchivePolicy}
use Rattle.series_model.specs.declared.answer.Row.{Row}
use Rattle.series_model.specs.declared.measure.Measure.{Measure}
use Rattle.series_model.specs.declared.point.Point.{Point}
use Rattle.series_model.specs.declared.query.Query.{Query}
use Rattle.series_model.specs.Accepted.{latest}
use Rattle.series_model.specs.Answer.{oldest_point_of, row_of}
use Rattle.series_model.specs.Points.{points_of}
use Rattle.series_model.specs.Series.{series_of_measures}

-- whether a granularity is asked for: each one, where none is named
abbrev pub is_named : Option ℕ → ℕ → Bool
is_named None granularity = true
is_named (Some named) granularity = granularity == named

-- the definitions that are asked for, the coarsest first
abbrev pub asked_of : Query → List Definition → List Definition
asked_of query definitions = reverse (filter (λ d. is_named query.granularity d.granularity) definitions)

-- a bucket isn't before the one that the start is in, where a start is given
abbrev pub is_from : Option ℕ → ℕ → ℕ → Bool
is_from None granularity at = true
is_from (Some start) granularity at = nat_le (floor_of start granularity) at

-- a bucket begins before the stop, where one is given
abbrev pub is_until : Option ℕ → ℕ → Bool
is_until None at = true
is_until (Some stop) at = nat_lt at stop

-- whether a query wants the point of a definition, where the oldest point to keep is this one
abbrev pub is_wanted : Query → ℕ → ℕ → Point → Bool
is_wanted query granularity oldest p =
    nat_le oldest p.at && (is_from query.start granularity p.at && is_until query.stop p.at)

-- the rows of one definition, by these points
abbrev pub rows_wanted : Query → ℕ → ℕ → List Point → List Row
rows_wanted query granularity oldest points =
    map (row_of granularity) (filter (is_wanted query granularity oldest) points)

-- the rows of a kind over definitions, one definition after the other; none where nothing was accepted
abbrev pub rows_over : Query → Kind → List Measure → Option ℕ → List Definition → List Row
rows_over query kind series None definitions = []
rows_over query kind series (Some last) definitions =
    flat_map (λ d. rows_wanted query d.granularity (oldest_point_of last d) (points_of kind d.granularity series)) definitions

-- the answer of a query for a kind, by a policy and all measures that were accepted: for each
-- definition that is asked for, the coarsest first, the rows of the points that it wants, by time
abbrev pub answer_under : ArchivePolicy → Query → Kind → List Measure → List Row
answer_under policy query kind accepted =
    rows_over query kind (series_of_measures accepted) (latest accepted) (asked_of query policy.definitions)

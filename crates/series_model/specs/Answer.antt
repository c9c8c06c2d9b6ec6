-- What a query is answered with.
use Rattle.std.specs.Prelude.{◌≡◌, ◌↔◌, ℕ, ◌-◌, ◌*◌, ◌%◌, ◌≤◌, List, [], map, Option, Some, None, IfSome}
use Rattle.std.specs.List.{Contains}
use Rattle.std.specs.List.Sorted.{IsStrictlyIncreasing}
use Rattle.gno_num.specs.Floor.{floor_of}
use Rattle.archive_policy.specs.declared.kind.Kind.{Kind}
use Rattle.archive_policy.specs.declared.definition.Definition.{Definition}
use Rattle.series_model.specs.declared.answer.Row.{Row}
use Rattle.series_model.specs.declared.measure.Measure.{Measure}
use Rattle.series_model.specs.Accepted.{latest}
use Rattle.series_model.specs.declared.point.Point.{Point}
use Rattle.series_model.specs.Series.{series_of_measures}
use Rattle.series_model.specs.Bucket.{value_at}
use Rattle.series_model.specs.Points.{points_of, points_from}

-- the start of the oldest bucket that is kept, by the greatest accepted timestamp
abbrev pub oldest_point_of : ℕ → Definition → ℕ
oldest_point_of last d = floor_of last d.granularity - (d.points - 1) * d.granularity

-- the row of a point
abbrev pub row_of : ℕ → Point → Row
row_of granularity p = record { at = p.at; granularity = granularity; value = p.value }

-- the rows of the points from the oldest one on, by time; none where nothing was accepted
abbrev pub rows_until : Kind → Definition → List Measure → Option ℕ → List Row
rows_until kind d series None = []
rows_until kind d series (Some last) =
    map (row_of d.granularity) (points_from (oldest_point_of last d) (points_of kind d.granularity series))

-- what a query of one kind and one granularity is answered with, by all measures that were accepted
abbrev pub answer_of : Kind → Definition → List Measure → List Row
answer_of kind d accepted = rows_until kind d (series_of_measures accepted) (latest accepted)

-- A row of a query: its time is a multiple of the granularity and not before the oldest point, and its
-- value is that of the bucket there.
pub record IsRow (kind : Kind) (d : Definition) (accepted : List Measure) (row : Row) : Type 0 where
  pub granularity : row.granularity ≡ d.granularity
  pub multiple : row.at % d.granularity ≡ 0
  pub kept : IfSome (latest accepted) (λ last. oldest_point_of last d ≤ row.at)
  pub value : value_at kind d.granularity (series_of_measures accepted) row.at ≡ Some row.value

-- the rows of a query and no others, by time
pub record IsAnswer (kind : Kind) (d : Definition) (accepted : List Measure) (rows : List Row) : Type 0 where
  pub rising : IsStrictlyIncreasing (map (λ row. row.at) rows)
  pub members : (row : Row) → Contains rows row ↔ IsRow kind d accepted row

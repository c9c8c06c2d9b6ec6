use Rattle.std.proofs.Common.{◌≡◌, ◌++◌, ◌+◌, ◌*◌, false, List}
use Rattle.series_model.specs.declared.point.Point.{Point}
use Rattle.series_model.specs.Query.{rows_wanted}
use Rattle.split_update.specs.Update.{points_before}
use Rattle.split_store.specs.ShelfView.{IsLastingShelf, IsOnlySeen}
use Rattle.shelf_query.specs.Reading.{KeepsPoints}
use Rattle.shelf_query.proofs.series.add_series.Given as goal

-- the rows of the points of the stretches so far
abbrev pub invariant-loop-i : goal.invariant-loop-i
invariant-loop-i g l = record {
  rows : (points : List Point) → KeepsPoints g.D.Disk l.fn.shelf l.fn.series l.fn.last points
      → l.rows ≡ l.fn.rows ++ rows_wanted l.query l.series.definition.granularity l.oldest (points_before (l.begin + l.i * l.length) points);
  whole : l.shelf.broken ≡ false;
  seen : IsOnlySeen g.D.Disk l.fn.shelf l.shelf;
  left : IsLastingShelf g.D.Disk l.shelf;
}

use Rattle.std.proofs.Common.{◌≡◌, ◌++◌, ◌-◌, List, drop, Some, false}
use Rattle.archive_policy.specs.Policies.{ArchivePolicy}
use Rattle.series_model.specs.declared.measure.Measure.{Measure}
use Rattle.series_model.specs.Query.{asked_of, rows_over}
use Rattle.series_model.specs.Series.{series_of_measures}
use Rattle.split_store.specs.ShelfView.{IsLastingShelf, IsOnlySeen}
use Rattle.shelf_query.specs.Reading.{KeepsAccepted}
use Rattle.shelf_query.proofs.answer.add_all.Given as goal

-- the rows of the last so many definitions
abbrev pub invariant-loop-i : goal.invariant-loop-i
invariant-loop-i g l = record {
  rows : (policy : ArchivePolicy) (accepted : List Measure) → KeepsAccepted g.D.Disk l.fn.shelf l.fn.metric l.fn.kind policy accepted
      → l.rows ≡ l.fn.rows ++ rows_over l.fn.query l.fn.kind (series_of_measures accepted) (Some l.fn.last) (asked_of l.fn.query (drop (l.count - l.i) l.definitions));
  whole : l.shelf.broken ≡ false;
  seen : IsOnlySeen g.D.Disk l.fn.shelf l.shelf;
  left : IsLastingShelf g.D.Disk l.shelf;
}

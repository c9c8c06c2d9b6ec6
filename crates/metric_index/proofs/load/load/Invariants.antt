use Rattle.std.proofs.Common.{◌≡◌, false, take}
use Rattle.std.specs.Option.{IfSome}
use Rattle.metric_index.specs.Catalog.{IsKept, maps_in}
use Rattle.metric_index.specs.IndexLog.{IsIndexLog}
use Rattle.metric_index.specs.Reading.{IsOnlyRead}
use Rattle.metric_index.proofs.load.load.Given as goal

abbrev pub invariant-loop-index : goal.invariant-loop-index
invariant-loop-index g l = record {
  reads : IsOnlyRead g.D.Disk l.fn.pair l.pair;
  whole : l.pair.broken ≡ false;
  kept : IsKept l.catalog;
  are : IfSome l.fn.pair.records (λ records. IsIndexLog (take l.index records) (maps_in l.catalog));
}

use Rattle.std.proofs.Common.{◌≡◌, [], false, take}
use Rattle.std.specs.Prelude.{All}
use Rattle.std.specs.Option.{IfSome}
use Rattle.pair_reading.specs.Reading.{IsOnlyRead}
use Rattle.shelf_records.specs.Shelved.{AreBlocks}
use Rattle.split_store.specs.Loading.{AreRecordsOf, IsSound}
use Rattle.split_store.proofs.load.load.Given as goal

abbrev pub invariant-loop-index : goal.invariant-loop-index
invariant-loop-index g l = record {
  reads : IsOnlyRead g.D.Disk l.fn.pair l.pair;
  whole : l.pair.broken ≡ false;
  taken : l.book.taken ≡ [];
  blocks : AreBlocks l.size l.book.metrics;
  sound : All IsSound l.book.metrics;
  are : IfSome l.fn.pair.records (λ records. AreRecordsOf l.size l.book.metrics (take l.index records));
}

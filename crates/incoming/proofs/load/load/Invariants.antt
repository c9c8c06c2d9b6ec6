use Rattle.std.proofs.Common.{◌≡◌, ◌+◌, false, length, take}
use Rattle.std.specs.Option.{IfSome}
use Rattle.incoming.specs.Contents.{AreOf, IsKept}
use Rattle.incoming.specs.Reading.{IsOnlyRead}
use Rattle.incoming.proofs.load.load.Given as goal

abbrev pub invariant-loop-index : goal.invariant-loop-index
invariant-loop-index g l = record {
  reads : IsOnlyRead g.D.Disk l.fn.pair l.pair;
  whole : l.pair.broken ≡ false;
  kept : IsKept l.contents;
  counted : l.contents.first + length l.contents.marks.items ≡ l.index;
  are : IfSome l.fn.pair.records (λ records. AreOf l.contents (take l.index records));
}

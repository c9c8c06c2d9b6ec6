use Rattle.std.proofs.Common.{◌≡◌, ◌*◌, length}
use Rattle.block_slots.specs.Reads.{IsReadOnly}
use Rattle.shelf_blocks.specs.Turns.{AreMade}
use Rattle.shelf_blocks.proofs.turn.make_all.Given as goal

abbrev pub invariant-loop-definition : goal.invariant-loop-definition
invariant-loop-definition g l = record {
  count : length l.all.items ≡ l.definition * length l.fn.filed.policy.kinds;
  made : AreMade (g.D.Disk.told l.fn.disk) l.fn.filed l.fn.prepared l.all.items;
  reads : IsReadOnly g.D.Disk l.fn.disk l.disk;
}

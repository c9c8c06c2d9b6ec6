use Rattle.std.proofs.Common.{◌≡◌, ◌+◌, ◌*◌, length}
use Rattle.block_slots.specs.Reads.{IsReadOnly}
use Rattle.shelf_blocks.specs.Turns.{AreMade}
use Rattle.shelf_blocks.proofs.turn.make_kinds.Given as goal

abbrev pub invariant-loop-kind : goal.invariant-loop-kind
invariant-loop-kind g l = record {
  count : length l.all.items ≡ l.fn.definition * length l.fn.filed.policy.kinds + l.kind;
  made : AreMade (g.D.Disk.told l.fn.disk) l.fn.filed l.fn.prepared l.all.items;
  reads : IsReadOnly g.D.Disk l.fn.disk l.disk;
}

use Rattle.std.proofs.Common.{◌≡◌, ◌≤◌, drop, take, vec_capacity, All, IfSome}
use Rattle.gno_disk.specs.Disk.{Told}
use Rattle.gno_disk.specs.Moments.{LeavesOnly}
use Rattle.shelf_records.specs.Shelved.{slot}
use Rattle.block_slots.specs.Slots.{FillsSlot, FollowOn, IsSpared, Spares, places_of, size_with}
use Rattle.block_slots.proofs.slots.write_pieces.Given as goal

abbrev pub invariant-loop-i : goal.invariant-loop-i
invariant-loop-i g l = record {
  room : slot ≤ vec_capacity l.buffer;
  placed : FollowOn (g.D.Disk.size l.disk) (drop l.i l.fn.pieces);
  size : size_with (g.D.Disk.size l.disk) (drop l.i l.fn.pieces) ≡ size_with (g.D.Disk.size l.fn.disk) l.fn.pieces;
  stand : IfSome (g.D.Disk.told l.disk) (λ bytes. All (FillsSlot bytes) (take l.i l.fn.pieces));
  spared : Told (Spares (places_of l.fn.pieces)) (g.D.Disk.told l.fn.disk) (g.D.Disk.told l.disk);
  leaves : LeavesOnly g.D.Disk l.fn.disk l.disk (IsSpared g.D.Disk (places_of l.fn.pieces) l.fn.disk);
  came : g.D.Disk.came l.i l.fn.disk l.disk;
}

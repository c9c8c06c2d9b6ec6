use Rattle.std.proofs.Common.{◌≡◌, ◌++◌, length, map, IfSome, option_to_list}
use Rattle.std.specs.List.Sorted.{IsStrictlyIncreasing}
use Rattle.series_model.specs.Tail.{last_time}
use Rattle.block_slots.specs.Reads.{IsReadOnly}
use Rattle.shelf_blocks.specs.Chunks.{AreRead}
use Rattle.shelf_blocks.proofs.raw.read_series.Given as goal

abbrev pub invariant-loop-i : goal.invariant-loop-i
invariant-loop-i g l = record {
  reads : IsReadOnly g.D.Disk l.fn.disk l.disk;
  read : IfSome (g.D.Disk.told l.fn.disk) (λ z. AreRead z l.fn.blocks l.i l.points.items);
  rising : IsStrictlyIncreasing (map (λ p. p.at) (option_to_list l.fn.anchor ++ l.points.items));
  ends : l.i ≡ length l.fn.blocks → l.fn.last ≡ last_time l.points.items;
}

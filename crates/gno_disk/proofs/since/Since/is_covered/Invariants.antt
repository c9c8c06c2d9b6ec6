use Rattle.std.proofs.Common.{◌≡◌, map, drop}
use Rattle.std.specs.List.{list_any}
use Rattle.gno_disk.specs.Images.{covers}
use Rattle.gno_disk.specs.Inside.{range_of}
use Rattle.gno_disk.proofs.since.Since.is_covered.Given as goal

abbrev pub invariant-loop-range : goal.invariant-loop-range
invariant-loop-range l = list_any (covers l.place) (map range_of (drop l.range-index l.range-items)) ≡ list_any (covers l.place) (map range_of l.range-items)

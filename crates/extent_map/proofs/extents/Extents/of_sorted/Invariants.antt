use Rattle.std.proofs.Common.{take}
use Rattle.extent_map.specs.Ranges.{AreFreeRanges}
use Rattle.extent_map.proofs.UsedLemmas.{AreUsed}
use Rattle.extent_map.proofs.extents.Extents.of_sorted.Given as goal

-- the ranges so far are used
abbrev pub invariant-loop-range : goal.invariant-loop-range
invariant-loop-range l =
    AreUsed (take l.range-index l.used) l.extents × AreFreeRanges l.extents.end l.extents.free

use Rattle.std.proofs.Common.{take}
use Rattle.std.specs.List.{All}
use Rattle.shelf_records.specs.Shelved.{IsInSlot}
use Rattle.shelf_records.proofs.follow.are_in_slots.Given as goal

abbrev pub invariant-loop-block : goal.invariant-loop-block
invariant-loop-block l = All (IsInSlot l.size) (take l.block-index l.blocks)

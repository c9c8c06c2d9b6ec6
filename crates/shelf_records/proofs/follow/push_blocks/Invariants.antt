use Rattle.std.proofs.Common.{◌≡◌, ◌++◌, take}
use Rattle.shelf_records.specs.Changes.{blocks_of_changes}
use Rattle.shelf_records.proofs.follow.push_blocks.Given as goal

abbrev pub invariant-loop-change : goal.invariant-loop-change
invariant-loop-change l = l.blocks.items ≡ l.fn.blocks.items ++ blocks_of_changes (take l.change-index l.changes)

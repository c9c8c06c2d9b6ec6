use Rattle.std.proofs.Common.{◌≡◌, ◌*◌, ◌++◌, length, drop}
use Rattle.shelf_records.specs.Changes.{changes_by}
use Rattle.shelf_records.specs.Filed.{layout_of}
use Rattle.shelf_records.specs.Shelved.{none_kept}
use Rattle.shelf_records.proofs.Changing.{lists_of}
use Rattle.shelf_records.proofs.changes.changes_of_moves.Given as goal

abbrev pub invariant-loop-definition : goal.invariant-loop-definition
invariant-loop-definition l =
    l.changes.items ++ changes_by (none_kept l.policy.kinds l.definition (drop l.definition l.policy.definitions)) (drop (l.definition * length l.policy.kinds) (lists_of l.moves)) ≡ changes_by (layout_of l.policy) (lists_of l.moves)

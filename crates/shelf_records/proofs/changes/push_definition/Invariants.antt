use Rattle.std.proofs.Common.{◌≡◌, ◌++◌, map, drop}
use Rattle.shelf_records.specs.Changes.{changes_by}
use Rattle.shelf_records.proofs.Changing.{lists_of}
use Rattle.shelf_records.proofs.Places.{none_of}
use Rattle.shelf_records.proofs.changes.push_definition.Given as goal

abbrev pub invariant-loop-place : goal.invariant-loop-place
invariant-loop-place l =
    l.changes.items ++ changes_by (map (none_of l.definition) (drop l.place l.kinds)) (drop l.place (lists_of l.moves)) ≡ l.fn.changes.items ++ changes_by (map (none_of l.definition) l.kinds) (lists_of l.moves)

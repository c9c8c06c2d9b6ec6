use Rattle.std.proofs.Common.{◌≡◌, ◌++◌, [], map, take}
use Rattle.shelf_records.specs.Changes.{change_of}
use Rattle.shelf_records.proofs.changes.push_moves.Given as goal

abbrev pub invariant-loop-moved : goal.invariant-loop-moved
invariant-loop-moved l =
    l.changes.items ≡ l.fn.changes.items ++ map (change_of (record { definition = l.definition; kind = l.kind; splits = [] })) (take l.moved-index l.moves)

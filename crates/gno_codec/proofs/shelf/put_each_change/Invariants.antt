use Rattle.std.proofs.Common.{◌≡◌, ◌++◌, take, All}
use Rattle.std.specs.Prelude.{IfSome}
use Rattle.std.specs.List.{flat_map}
use Rattle.gno_codec.specs.declared.item.Change.{Change}
use Rattle.gno_codec.specs.Shelf.{change_bytes, HasLength, IsChange}
use Rattle.gno_codec.proofs.shelf.put_each_change.Given as goal

abbrev pub invariant-loop-change : goal.invariant-loop-change
invariant-loop-change l =
    (l.out.items ≡ l.initial.out.items ++ flat_map change_bytes (take l.change-index l.changes))
    × (All (λ (change : Change). IfSome change.block HasLength) l.changes → All IsChange (take l.change-index l.changes))

use Rattle.std.proofs.Common.{◌≡◌, ◌++◌, map, take}
use Rattle.shelf_records.proofs.series.push_all.Given as goal

abbrev pub invariant-loop-stored : goal.invariant-loop-stored
invariant-loop-stored l =
    record {
      keys : l.keys.items ≡ l.initial.keys.items ++ map (λ s. s.key) (take l.stored-index l.made);
      blocks : l.blocks.items ≡ l.initial.blocks.items ++ map (λ s. s.block) (take l.stored-index l.made);
    }

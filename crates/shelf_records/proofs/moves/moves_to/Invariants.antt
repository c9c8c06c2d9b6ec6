use Rattle.std.proofs.Common.{◌≡◌, ◌+◌, ◌-◌, ◌≤◌, ◌++◌, take, drop, length}
use Rattle.shelf_records.specs.Moves.{merged}
use Rattle.shelf_records.proofs.moves.moves_to.Given as goal

abbrev pub invariant-loop-from : goal.invariant-loop-from
invariant-loop-from l =
    record {
      passed : l.from ≤ l.gone;
      reached : l.upto ≤ length l.made;
      leads : l.moves.items ++ merged (drop l.from (take l.first l.keys ++ drop l.until l.keys)) (drop l.upto l.made) ≡ merged (take l.first l.keys ++ drop l.until l.keys) l.made;
    }

abbrev pub decreases-loop-from : goal.decreases-loop-from
decreases-loop-from l = l.gone - l.from + (length l.made - l.upto)

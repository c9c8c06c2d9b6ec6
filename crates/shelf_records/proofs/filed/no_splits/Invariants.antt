use Rattle.std.proofs.Common.{◌≡◌, ◌*◌, [], length}
use Rattle.std.specs.List.{All}
use Rattle.shelf_records.proofs.filed.no_splits.Given as goal

abbrev pub invariant-loop-definition : goal.invariant-loop-definition
invariant-loop-definition l =
    record {
      count : length l.kept.items ≡ l._definition * l.kinds;
      none : All (λ splits. splits ≡ []) l.kept.items;
    }

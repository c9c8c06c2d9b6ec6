use Rattle.std.proofs.Common.{◌≡◌, ◌+◌, [], length}
use Rattle.std.specs.List.{All}
use Rattle.shelf_records.proofs.filed.push_none.Given as goal

abbrev pub invariant-loop-kind : goal.invariant-loop-kind
invariant-loop-kind l =
    record {
      count : length l.kept.items ≡ length l.fn.kept.items + l._kind;
      none : All (λ splits. splits ≡ []) l.kept.items;
    }

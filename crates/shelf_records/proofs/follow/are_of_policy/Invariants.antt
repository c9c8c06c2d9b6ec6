use Rattle.std.proofs.Common.{take}
use Rattle.std.specs.List.{All}
use Rattle.shelf_records.specs.Shelved.{IsOfPolicy}
use Rattle.shelf_records.proofs.follow.are_of_policy.Given as goal

abbrev pub invariant-loop-change : goal.invariant-loop-change
invariant-loop-change l = All (IsOfPolicy l.policy) (take l.change-index l.changes)

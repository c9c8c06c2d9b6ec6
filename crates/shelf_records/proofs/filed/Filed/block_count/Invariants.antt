use Rattle.std.proofs.Common.{◌≡◌, ◌+◌, drop, length}
use Rattle.shelf_records.specs.Book.{blocks_of_kept}
use Rattle.shelf_records.specs.Shelved.{blocks_of_metric}
use Rattle.shelf_records.proofs.filed.Filed.block_count.Given as goal

abbrev pub invariant-loop-place : goal.invariant-loop-place
invariant-loop-place l =
    l.count + length (blocks_of_kept (drop l.place l.self.kept)) ≡ length (blocks_of_metric l.self)

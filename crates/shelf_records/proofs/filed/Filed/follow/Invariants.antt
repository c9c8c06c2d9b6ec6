use Rattle.std.proofs.Common.{◌≡◌, map, take}
use Rattle.shelf_records.specs.Shelved.{kept_after}
use Rattle.shelf_records.proofs.filed.Filed.follow.Given as goal

abbrev pub invariant-loop-change : goal.invariant-loop-change
invariant-loop-change l = l.self ≡ record l.fn.self { kept = map (kept_after (take l.change-index l.fn.item.changes)) l.fn.self.kept }

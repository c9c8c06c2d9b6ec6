use Rattle.std.proofs.Common.{List, sym, subst, rules}
use Rattle.shelf_records.specs.Shelved.{AreBlocks, Shelved}
use Rattle.shelf_records.proofs.book.Book.follow_drop.Goals as goal

pub returns-clause-legal : goal.returns-clause-legal
returns-clause-legal c =
    (search rules, λ size blocks. c.drop_metric.ensures.blocks size (subst (λ (ms : List Shelved). AreBlocks size ms) (sym (c.in_ok-reserve_drop.ensures {u = tt}).metrics) blocks))

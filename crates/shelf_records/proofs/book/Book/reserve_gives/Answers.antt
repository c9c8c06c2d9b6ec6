use Rattle.std.proofs.Common.{◌≡◌, ◌++◌, take}
use Rattle.shelf_records.specs.Book.{places_of}
use Rattle.shelf_records.specs.Shelved.{blocks_in_use}
use Rattle.shelf_records.proofs.Metrics.{held_again}
use Rattle.shelf_records.proofs.book.Book.reserve_gives.Goals as goal

pub invariant_of-self-2 : goal.invariant_of-self-2
invariant_of-self-2 c =
    let b = c.self.inside in
    let old = c.self.invariant in
    record {
      ids = old.ids;
      rising = old.rising;
      filed = old.filed;
      within = old.within;
      all = old.all;
      held = held_again (take b.held b.taken.items ++ places_of (blocks_in_use b.metrics.items)) b.used c.reserve.new.self c.reserve.ensures.end c.reserve.ensures.free old.held;
    }

use Rattle.std.proofs.Common.{◌++◌, ℕ, List, length, take, sym, ap, subst, arith}
use Rattle.shelf_records.specs.Book.{places_of}
use Rattle.shelf_records.specs.Shelved.{blocks_in_use}
use Rattle.shelf_records.specs.Slots.{AreHeld}
use Rattle.shelf_records.proofs.book.Book.release.Goals as goal

pub invariant_of-self : goal.invariant_of-self
invariant_of-self c =
    let b = c.self.inside in
    let old = c.self.invariant in
    record {
      ids = old.ids;
      rising = old.rising;
      filed = old.filed;
      within = omega arith;
      all = λ h. sym (ap length c.clear.ensures.items);
      held = c.give_slots.ensures.held (places_of (blocks_in_use b.metrics.items)) (subst (λ (l : List ℕ). AreHeld (take b.held l ++ places_of (blocks_in_use b.metrics.items)) b.used) (sym c.deref.ensures.value) old.held);
    }

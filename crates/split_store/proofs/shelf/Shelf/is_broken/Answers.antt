use Rattle.std.proofs.Common.{◌≡◌, false, subst}
use Rattle.std.proofs.lemmas.Bool.{or_parts}
use Rattle.split_store.specs.ShelfView.{IsLastingShelf, ShelfView}
use Rattle.split_store.proofs.Held.{lasting_held}
use Rattle.split_store.proofs.shelf.Shelf.is_broken.Goals as goal

pub returns-else-self-clause-durable : goal.returns-else-self-clause-durable
returns-else-self-clause-durable g c =
    let i = c.self.inside in
    let inv = c.self.invariant in
    subst (λ (v : ShelfView _). v.broken ≡ false → IsLastingShelf g.D.Disk v) c.self.view_is
    (λ whole lives a b z keeps left left_too left_last. lasting_held g.D.Disk g.met.D.Disk.whole i.pair i.blocks i.book.metrics inv.role (inv.told keeps.first keeps.second) (inv.whole whole).are (inv.whole whole).synced
    (c.is_broken.ensures.durable (or_parts i.pair.broken i.damaged whole).0) lives keeps.bytes a b z keeps.told keeps.held left left_too left_last)

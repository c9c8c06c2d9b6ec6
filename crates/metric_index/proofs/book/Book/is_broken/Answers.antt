use Rattle.std.proofs.Common.{◌≡◌, false, subst}
use Rattle.metric_index.specs.BookView.{BookView, IsLastingBook}
use Rattle.metric_index.specs.Catalog.{maps_in}
use Rattle.metric_index.proofs.Mounted.{held_told}
use Rattle.metric_index.proofs.book.Book.is_broken.Goals as goal

pub returns-clause-durable : goal.returns-clause-durable
returns-clause-durable g c =
    let i = c.self.inside in
    let p = i.pair in
    subst (λ (v : BookView _). v.broken ≡ false → IsLastingBook g.D.Disk v) c.self.view_is
    (λ whole a b left left_too told. held_told p.records p.place p.place.sacks p.epoch (maps_in i.catalog) a b c.self.invariant.place c.self.invariant.are (c.is_broken.ensures.durable whole a b left left_too) told)

use Rattle.std.proofs.Common.{◌≡◌, false, subst}
use Rattle.log_pair.specs.Inside.{pair_view}
use Rattle.log_pair.specs.PairView.{PairView, IsLastingPair, AreOfPair}
use Rattle.log_pair.proofs.Images.{image_held, images_of, older_image}
use Rattle.log_pair.proofs.pair.LogPair.is_broken.Goals as goal

pub returns-clause-durable : goal.returns-clause-durable
returns-clause-durable g c =
    let p = c.self.inside in
    let i = c.self.invariant in
    subst (λ (v : PairView _). v.broken ≡ false → IsLastingPair g.D.Disk v) c.self.view_is
    (λ whole. images_of g.D.Disk p.on_second p.log.disk p.other (AreOfPair (pair_view g.D.Disk p))
    (λ x y left left_too. image_held p.place p.epoch p.on_second i.fits i.in_range (g.D.Disk.told p.other) p.log.records x y i.header (c.is_broken.ensures.durable whole x left) (older_image (g.D.Disk.told p.other) (g.D.Disk.may_leave p.other) p.on_second p.epoch y i.older left_too)))

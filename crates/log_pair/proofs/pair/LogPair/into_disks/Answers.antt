use Rattle.std.proofs.Common.{◌≡◌, false, subst}
use Rattle.log_pair.specs.Choice.{TwoTold}
use Rattle.log_pair.specs.Inside.{pair_view}
use Rattle.log_pair.specs.Pair.{one_of, other_of}
use Rattle.log_pair.specs.PairView.{PairView, AreOfPair}
use Rattle.log_pair.proofs.Images.{told_held}
use Rattle.log_pair.proofs.pair.LogPair.into_disks.Goals as goal

pub returns-then-on_second-clause-held : goal.returns-then-on_second-clause-held
returns-then-on_second-clause-held g c =
    let p = c.self.inside in
    let i = c.self.invariant in
    let told = g.D.Disk.told in
    subst (λ (v : PairView _). v.broken ≡ false → TwoTold (told p.other) (told c.into_disk-disk.result) (AreOfPair v)) c.self.view_is
    (λ whole. subst (λ s. TwoTold (one_of s (told c.into_disk-disk.result) (told p.other)) (other_of s (told c.into_disk-disk.result) (told p.other)) (AreOfPair (pair_view g.D.Disk p))) c.if-on_second.true
    (told_held p.place p.epoch i.fits i.in_range p.on_second (told c.into_disk-disk.result) (told p.other) (g.D.Disk.may_leave p.other) p.log.records i.header (c.into_disk-disk.ensures.held whole) i.older (g.met.D.Disk.reads p.other)))

pub returns-else-on_second-clause-held : goal.returns-else-on_second-clause-held
returns-else-on_second-clause-held g c =
    let p = c.self.inside in
    let i = c.self.invariant in
    let told = g.D.Disk.told in
    subst (λ (v : PairView _). v.broken ≡ false → TwoTold (told c.into_disk-disk.result) (told p.other) (AreOfPair v)) c.self.view_is
    (λ whole. subst (λ s. TwoTold (one_of s (told c.into_disk-disk.result) (told p.other)) (other_of s (told c.into_disk-disk.result) (told p.other)) (AreOfPair (pair_view g.D.Disk p))) c.if-on_second.false
    (told_held p.place p.epoch i.fits i.in_range p.on_second (told c.into_disk-disk.result) (told p.other) (g.D.Disk.may_leave p.other) p.log.records i.header (c.into_disk-disk.ensures.held whole) i.older (g.met.D.Disk.reads p.other)))

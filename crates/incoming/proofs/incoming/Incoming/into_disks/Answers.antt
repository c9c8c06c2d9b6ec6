use Rattle.std.proofs.Common.{◌≡◌, false, subst}
use Rattle.log_pair.specs.Choice.{TwoTold}
use Rattle.incoming.specs.IncomingView.{AreOfIncoming, IncomingView}
use Rattle.incoming.proofs.PostMoments.{or_false}
use Rattle.incoming.proofs.Views.{told_held}
use Rattle.incoming.proofs.incoming.Incoming.into_disks.Goals as goal

pub returns-clause-held : goal.returns-clause-held
returns-clause-held g c =
    let told = g.D.Disk.told in
    let i = c.self.inside in
    subst (λ (v : IncomingView _). v.broken ≡ false → TwoTold (told c.into_disks.result.0) (told c.into_disks.result.1) (AreOfIncoming v)) c.self.view_is
    (λ whole. told_held i.pair i.contents c.self.invariant.role c.self.invariant.are (told c.into_disks.result.0) (told c.into_disks.result.1) (c.into_disks.ensures.held (or_false i.pair.broken i.damaged whole).0))

use Rattle.std.proofs.Common.{◌≡◌, false, subst}
use Rattle.incoming.specs.IncomingView.{IncomingView, IsLastingIncoming}
use Rattle.incoming.proofs.PostMoments.{or_false}
use Rattle.incoming.proofs.Views.{lasting_held}
use Rattle.incoming.proofs.incoming.Incoming.is_broken.Goals as goal

pub returns-else-self-clause-durable : goal.returns-else-self-clause-durable
returns-else-self-clause-durable g c =
    let i = c.self.inside in
    subst (λ (v : IncomingView _). v.broken ≡ false → IsLastingIncoming g.D.Disk v) c.self.view_is
    (λ whole. lasting_held i.pair i.contents c.self.invariant.role c.self.invariant.are g.D.Disk (c.is_broken.ensures.durable (or_false i.pair.broken i.damaged whole).0))

use Rattle.std.proofs.Common.{sym, subst}
use Rattle.front.specs.SoloView.{SoloView, StandsForBooks}
use Rattle.front.proofs.solo.Solo.release_work.Goals as goal

pub returns-clause-releases : goal.returns-clause-releases
returns-clause-releases g c books is =
    let inner = subst (λ (v : SoloView _). StandsForBooks g.D.Disk v books) (sym c.self.view_is) is in
    c.release_in_sack.ensures.releases books (record { index = inner.index; sacks = inner.sacks })

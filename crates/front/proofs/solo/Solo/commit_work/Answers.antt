use Rattle.std.proofs.Common.{subst, sym}
use Rattle.front.specs.SoloView.{SoloView, StandsForBooks}
use Rattle.front.proofs.solo.Solo.commit_work.Goals as goal

pub returns-clause-commits : goal.returns-clause-commits
returns-clause-commits g c old known =
    let new = c.commit_in-given.ensures.commits old known in
    let inner = subst (λ (v : SoloView _). StandsForBooks g.D.Disk v new.0) (sym c.self.view_is) new.1 in
    (new.0, record { index = inner.index; sacks = inner.sacks }, new.2)

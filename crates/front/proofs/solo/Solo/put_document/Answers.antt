use Rattle.std.proofs.Common.{subst, refl}
use Rattle.front_api.specs.Seen.{EntersIndex, LeadsTo}
use Rattle.front_api.specs.Calls.{IsAdded}
use Rattle.front.specs.Inside.{solo_view}
use Rattle.front.specs.SoloView.{SoloView, StandsForBooks}
use Rattle.front.proofs.Entered.{index_leads}
use Rattle.front.proofs.RealFaults.{counts_later, real_added}
use Rattle.front.proofs.Told.{control_risen}
use Rattle.front.proofs.solo.Solo.put_document.Goals as goal

pub returns-clause-adds : goal.returns-clause-adds
returns-clause-adds g c =
    let i = c.self.inside in
    let later = solo_view (record i { index = c.add_metric.new.self }) in
    subst (λ (v : SoloView _). LeadsTo (StandsForBooks g.D.Disk) v later (EntersIndex (IsAdded c.args.doc.now) c.add_metric.result)) c.self.view_is
    (index_leads g.D.Disk (IsAdded c.args.doc.now) c.add_metric.result (solo_view i) later refl
    (λ first h stands. let after = c.add_metric.ensures.stands first h stands in (after.own, after.stands, after.does))
    c.add_metric.ensures.sound
    (control_risen g.D.Disk c.add_metric.result i.index.disks c.add_metric.new.self.disks c.add_metric.ensures.cause)
    (λ first h own stands does. real_added g.D.Disk i.index.disks c.add_metric.new.self.disks (counts_later g.D.Disk g.met.D.Disk.came_later 6 i.index.disks c.add_metric.new.self.disks c.add_metric.ensures.came) c.args.doc.now c.add_metric.result c.add_metric.ensures.cause (c.add_metric.ensures.sound first h stands) first h own does))

use Rattle.std.proofs.Common.{subst, refl}
use Rattle.front_api.specs.Seen.{EntersIndex, LeadsTo}
use Rattle.metric_index.specs.IndexCalls.{IsBegunBy}
use Rattle.front.specs.Inside.{solo_view}
use Rattle.front.specs.SoloView.{SoloView, StandsForBooks}
use Rattle.front.proofs.Entered.{index_leads}
use Rattle.front.proofs.RealFaults.{counts_later, real_begun}
use Rattle.front.proofs.Told.{control_risen}
use Rattle.front.proofs.solo.Solo.begin.Goals as goal

pub returns-clause-begins : goal.returns-clause-begins
returns-clause-begins g c =
    let i = c.self.inside in
    let later = solo_view (record i { index = c.begin_metric.new.self }) in
    subst (λ (v : SoloView _). LeadsTo (StandsForBooks g.D.Disk) v later (EntersIndex (IsBegunBy c.args.command.now) c.begin_metric.result)) c.self.view_is
    (index_leads g.D.Disk (IsBegunBy c.args.command.now) c.begin_metric.result (solo_view i) later refl
    (λ first h stands. let after = c.begin_metric.ensures.stands first h stands in (after.own, after.stands, after.does))
    c.begin_metric.ensures.sound
    (control_risen g.D.Disk c.begin_metric.result i.index.disks c.begin_metric.new.self.disks c.begin_metric.ensures.cause)
    (λ first h own stands does. real_begun g.D.Disk i.index.disks c.begin_metric.new.self.disks (counts_later g.D.Disk g.met.D.Disk.came_later 6 i.index.disks c.begin_metric.new.self.disks c.begin_metric.ensures.came) c.args.command.now c.begin_metric.result c.begin_metric.ensures.cause (c.begin_metric.ensures.sound first h stands) first h own does))

use Rattle.std.proofs.Common.{subst, refl}
use Rattle.front_api.specs.Calls.{IsApplied}
use Rattle.front_api.specs.Seen.{EntersIndex, LeadsTo}
use Rattle.front.specs.Inside.{solo_view}
use Rattle.front.specs.SoloView.{SoloView, StandsForBooks}
use Rattle.front.proofs.Entered.{index_leads}
use Rattle.front.proofs.RealFaults.{counts_later, real_applied}
use Rattle.front.proofs.Told.{control_risen}
use Rattle.front.proofs.solo.Solo.ask_index.Goals as goal

pub returns-clause-controls : goal.returns-clause-controls
returns-clause-controls g c =
    let i = c.self.inside in
    let later = solo_view (record i { index = c.apply.new.self }) in
    subst (λ (v : SoloView _). LeadsTo (StandsForBooks g.D.Disk) v later (EntersIndex (IsApplied c.args.command.now) c.apply.result)) c.self.view_is
    (index_leads g.D.Disk (IsApplied c.args.command.now) c.apply.result (solo_view i) later refl
    (λ first h stands. let after = c.apply.ensures.stands first h stands in (after.own, after.stands, after.does))
    c.apply.ensures.sound
    (control_risen g.D.Disk c.apply.result i.index.disks c.apply.new.self.disks c.apply.ensures.cause)
    (λ first h own stands does. real_applied g.D.Disk i.index.disks c.apply.new.self.disks (counts_later g.D.Disk g.met.D.Disk.came_later 6 i.index.disks c.apply.new.self.disks c.apply.ensures.came) c.args.command.now c.apply.result c.apply.ensures.cause (c.apply.ensures.sound first h stands) first h own does))

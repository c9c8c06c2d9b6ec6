use Rattle.std.proofs.Common.{ap, refl, ◌∙◌}
use Rattle.front_api.specs.Seen.{capped}
use Rattle.metric_index.specs.IndexView.{sum_of_faults}
use Rattle.front.specs.SoloView.{disks_of_solo}
use Rattle.front.proofs.Came.{created_came}
use Rattle.front.proofs.Failed.{uncreated_cause}
use Rattle.front.proofs.Groups.{on_plan}
use Rattle.front.proofs.OpenedStore.{created_none, created_opened, created_stands}
use Rattle.front.proofs.Stops.{created_moments, uncreated_moments}
use Rattle.front.proofs.Still.{nothing_came, nothing_made, uncreated_came}
use Rattle.front.proofs.solo.Solo.create.Goals as goal

pub returns-in-Ok-create_on-clause-opened : goal.returns-in-Ok-create_on-clause-opened
returns-in-Ok-create_on-clause-opened g c =
    let d = g.met.D.Disk in
    let plan = on_plan c.args.sacks c.args.disks.items c.requires.planned in
    created_opened g.D.Disk d.came_tells d.came_more c.args.sacks c.args.number plan.from c.args.disks.items plan.are c.in-Ok-create_on.solo (c.in-Ok-create_on.ensures.created plan.from plan.are)

pub returns-in-Ok-create_on-clause-stands : goal.returns-in-Ok-create_on-clause-stands
returns-in-Ok-create_on-clause-stands g c =
    let d = g.met.D.Disk in
    let plan = on_plan c.args.sacks c.args.disks.items c.requires.planned in
    created_stands g.D.Disk d.came_tells d.came_more c.args.sacks c.args.number plan.from c.args.disks.items plan.are c.in-Ok-create_on.solo (c.in-Ok-create_on.ensures.created plan.from plan.are)

pub returns-in-Ok-create_on-clause-none : goal.returns-in-Ok-create_on-clause-none
returns-in-Ok-create_on-clause-none g c =
    let d = g.met.D.Disk in
    let plan = on_plan c.args.sacks c.args.disks.items c.requires.planned in
    created_none g.D.Disk d.came_tells d.came_more c.args.sacks c.args.number plan.from c.args.disks.items plan.are c.in-Ok-create_on.solo (c.in-Ok-create_on.ensures.created plan.from plan.are)

pub returns-in-Ok-create_on-clause-any_moment : goal.returns-in-Ok-create_on-clause-any_moment
returns-in-Ok-create_on-clause-any_moment g c =
    let d = g.met.D.Disk in
    let plan = on_plan c.args.sacks c.args.disks.items c.requires.planned in
    let solo = c.in-Ok-create_on.solo in
    created_moments g.D.Disk d.only_now d.came_none d.came_more d.came_tells d.came_goes_on c.args.sacks c.args.number c.ranges.number.fits plan.from c.args.disks.items (disks_of_solo solo) plan.are solo refl (c.in-Ok-create_on.ensures.created plan.from plan.are)

pub returns-in-Ok-create_on-clause-came : goal.returns-in-Ok-create_on-clause-came
returns-in-Ok-create_on-clause-came g c =
    let d = g.met.D.Disk in
    let plan = on_plan c.args.sacks c.args.disks.items c.requires.planned in
    created_came g.D.Disk d.came_then d.came_more c.args.sacks c.args.number plan.from c.args.disks.items plan.are c.in-Ok-create_on.solo (c.in-Ok-create_on.ensures.created plan.from plan.are)

pub returns-in_default-clause-any_moment_err : goal.returns-in_default-clause-any_moment_err
returns-in_default-clause-any_moment_err g c =
    let d = g.met.D.Disk in
    let plan = on_plan c.args.sacks c.args.disks.items c.requires.planned in
    nothing_made g.D.Disk d.only_now d.came_none d.came_more c.args.sacks c.args.number c.args.sacks c.args.disks.items plan

pub returns-in_default-clause-came_err : goal.returns-in_default-clause-came_err
returns-in_default-clause-came_err g c =
    let d = g.met.D.Disk in
    let plan = on_plan c.args.sacks c.args.disks.items c.requires.planned in
    nothing_came g.D.Disk d.only_now d.came_none d.came_more 15 9 9 1 c.args.sacks c.args.disks.items plan

pub returns-in-Err-clause-any_moment_err : goal.returns-in-Err-clause-any_moment_err
returns-in-Err-clause-any_moment_err g c =
    let d = g.met.D.Disk in
    let plan = on_plan c.args.sacks c.args.disks.items c.requires.planned in
    uncreated_moments g.D.Disk d.only_now d.came_none d.came_more d.came_tells d.came_goes_on c.args.sacks c.args.number c.ranges.number.fits plan.from c.args.disks.items c.in-Err.disks.items plan.are c.in-Err.unmade (c.in-Err.ensures.uncreated plan.from plan.are)

pub returns-in-Err-clause-came_err : goal.returns-in-Err-clause-came_err
returns-in-Err-clause-came_err g c =
    let d = g.met.D.Disk in
    let plan = on_plan c.args.sacks c.args.disks.items c.requires.planned in
    uncreated_came g.D.Disk d.only_now d.came_none d.came_more d.came_then c.args.sacks c.args.number plan.from c.args.disks.items c.in-Err.disks.items plan.are c.in-Err.unmade (c.in-Err.ensures.uncreated plan.from plan.are)

pub returns-in-Err-clause-cause : goal.returns-in-Err-clause-cause
returns-in-Err-clause-cause g c =
    let plan = on_plan c.args.sacks c.args.disks.items c.requires.planned in
    uncreated_cause g.D.Disk g.met.D.Disk.came_later c.args.sacks plan.from c.args.disks.items c.in-Err.disks.items plan.are c.of_making.result c.faults_of-before.result c.faults_of-after.result
    (c.faults_of-before.ensures ∙ ap (λ l. capped (sum_of_faults g.D.Disk l)) c.deref.ensures.value) (c.faults_of-after.ensures ∙ ap (λ l. capped (sum_of_faults g.D.Disk l)) c.deref-in-Err.ensures.value) c.args.number c.in-Err.unmade (c.in-Err.ensures.uncreated plan.from plan.are) c.of_making.ensures.exists c.of_making.ensures.failed

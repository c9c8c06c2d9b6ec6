use Rattle.std.proofs.Common.{ap, refl, ◌∙◌}
use Rattle.front_api.specs.Seen.{capped}
use Rattle.metric_index.specs.IndexView.{sum_of_faults}
use Rattle.front.specs.SoloView.{disks_of_solo}
use Rattle.front.proofs.Came.{mounted_came}
use Rattle.front.proofs.Failed.{unmounted_cause}
use Rattle.front.proofs.Groups.{on_plan}
use Rattle.front.proofs.OpenedStore.{mounted_exact, mounted_held, mounted_opened, mounted_stands}
use Rattle.front.proofs.Still.{nothing_came, nothing_written, unmounted_came}
use Rattle.front.proofs.Unwritten.{mounted_unwritten, unmounted_unwritten}
use Rattle.front.proofs.solo.Solo.mount.Goals as goal

pub returns-in-Ok-mount_on-clause-opened : goal.returns-in-Ok-mount_on-clause-opened
returns-in-Ok-mount_on-clause-opened g c =
    let d = g.met.D.Disk in
    let plan = on_plan c.args.sacks c.args.disks.items c.requires.planned in
    mounted_opened g.D.Disk d.came_tells d.came_more c.args.sacks 0 plan.from c.args.disks.items plan.are c.in-Ok-mount_on.solo (c.in-Ok-mount_on.ensures.mounted plan.from plan.are)

pub returns-in-Ok-mount_on-clause-held : goal.returns-in-Ok-mount_on-clause-held
returns-in-Ok-mount_on-clause-held g c =
    let d = g.met.D.Disk in
    let plan = on_plan c.args.sacks c.args.disks.items c.requires.planned in
    mounted_held g.D.Disk d.came_tells d.came_more c.args.sacks 0 plan.from c.args.disks.items plan.are c.in-Ok-mount_on.solo (c.in-Ok-mount_on.ensures.mounted plan.from plan.are)

pub returns-in-Ok-mount_on-clause-exact : goal.returns-in-Ok-mount_on-clause-exact
returns-in-Ok-mount_on-clause-exact g c =
    let d = g.met.D.Disk in
    let plan = on_plan c.args.sacks c.args.disks.items c.requires.planned in
    mounted_exact g.D.Disk d.came_tells d.came_more c.args.sacks 0 plan.from c.args.disks.items plan.are c.in-Ok-mount_on.solo (c.in-Ok-mount_on.ensures.mounted plan.from plan.are)

pub returns-in-Ok-mount_on-clause-stands : goal.returns-in-Ok-mount_on-clause-stands
returns-in-Ok-mount_on-clause-stands g c =
    let d = g.met.D.Disk in
    let plan = on_plan c.args.sacks c.args.disks.items c.requires.planned in
    mounted_stands g.D.Disk d.came_tells d.came_more c.args.sacks 0 plan.from c.args.disks.items plan.are c.in-Ok-mount_on.solo (c.in-Ok-mount_on.ensures.mounted plan.from plan.are)

pub returns-in-Ok-mount_on-clause-unwritten : goal.returns-in-Ok-mount_on-clause-unwritten
returns-in-Ok-mount_on-clause-unwritten g c =
    let d = g.met.D.Disk in
    let plan = on_plan c.args.sacks c.args.disks.items c.requires.planned in
    let solo = c.in-Ok-mount_on.solo in
    mounted_unwritten g.D.Disk c.args.sacks d.only_now d.came_none d.came_more plan.from c.args.disks.items (disks_of_solo solo) plan.are solo refl (c.in-Ok-mount_on.ensures.mounted plan.from plan.are)

pub returns-in-Ok-mount_on-clause-came : goal.returns-in-Ok-mount_on-clause-came
returns-in-Ok-mount_on-clause-came g c =
    let d = g.met.D.Disk in
    let plan = on_plan c.args.sacks c.args.disks.items c.requires.planned in
    mounted_came g.D.Disk d.came_then d.came_more c.args.sacks 0 plan.from c.args.disks.items plan.are c.in-Ok-mount_on.solo (c.in-Ok-mount_on.ensures.mounted plan.from plan.are)

pub returns-in_default-clause-unwritten_err : goal.returns-in_default-clause-unwritten_err
returns-in_default-clause-unwritten_err g c =
    let d = g.met.D.Disk in
    nothing_written g.D.Disk d.only_now d.came_none d.came_more c.args.disks.items

pub returns-in_default-clause-came_err : goal.returns-in_default-clause-came_err
returns-in_default-clause-came_err g c =
    let d = g.met.D.Disk in
    let plan = on_plan c.args.sacks c.args.disks.items c.requires.planned in
    nothing_came g.D.Disk d.only_now d.came_none d.came_more 2 2 2 1 c.args.sacks c.args.disks.items plan

pub returns-in-Err-clause-unwritten_err : goal.returns-in-Err-clause-unwritten_err
returns-in-Err-clause-unwritten_err g c =
    let d = g.met.D.Disk in
    let plan = on_plan c.args.sacks c.args.disks.items c.requires.planned in
    unmounted_unwritten g.D.Disk c.args.sacks d.only_now d.came_none d.came_more plan.from c.args.disks.items c.in-Err.disks.items plan.are c.in-Err.fault (c.in-Err.ensures.unmounted plan.from plan.are)

pub returns-in-Err-clause-came_err : goal.returns-in-Err-clause-came_err
returns-in-Err-clause-came_err g c =
    let d = g.met.D.Disk in
    let plan = on_plan c.args.sacks c.args.disks.items c.requires.planned in
    unmounted_came g.D.Disk d.only_now d.came_none d.came_more c.args.sacks plan.from c.args.disks.items c.in-Err.disks.items plan.are c.in-Err.fault (c.in-Err.ensures.unmounted plan.from plan.are)

pub returns-in-Err-clause-cause : goal.returns-in-Err-clause-cause
returns-in-Err-clause-cause g c =
    let plan = on_plan c.args.sacks c.args.disks.items c.requires.planned in
    unmounted_cause g.D.Disk g.met.D.Disk.came_later c.args.sacks plan.from c.args.disks.items c.in-Err.disks.items plan.are c.of_mounting.result c.faults_of-before.result c.faults_of-after.result
    (c.faults_of-before.ensures ∙ ap (λ l. capped (sum_of_faults g.D.Disk l)) c.deref.ensures.value) (c.faults_of-after.ensures ∙ ap (λ l. capped (sum_of_faults g.D.Disk l)) c.deref-in-Err.ensures.value) c.in-Err.fault (c.in-Err.ensures.unmounted plan.from plan.are) c.of_mounting.ensures

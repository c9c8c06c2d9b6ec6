use Rattle.std.proofs.Common.{◌≡◌, ℕ, ◌+◌, ◌*◌, length, vec_len, ap, ◌∙◌, arith}
use Rattle.std.proofs.lemmas.List.{length-replicate}
use Rattle.sack_state.specs.Books.{IsUnmounted}
use Rattle.sack_state.specs.declared.disks.SackDisks.{SackDisks}
use Rattle.gate_log.specs.declared.fault.MountFault.{MountFault}
use Rattle.front.specs.Making.{IsMountedSack}
use Rattle.front.specs.Plan.{sack_place}
use Rattle.front.proofs.Created.{all_opened, as_many_left, some_opened, takes_index}
use Rattle.front.proofs.Groups.{on_plan, opened_in_place}
use Rattle.front.proofs.Mounted.{mounted_index, mounted_on, unmounted_index, unmounted_sack}
use Rattle.front.proofs.solo.Solo.mount_on.Goals as goal

pub returns-in-Err-clause-unmounted : goal.returns-in-Err-clause-unmounted
returns-in-Err-clause-unmounted g c old is =
    let takes = takes_index old c.args.disks.items c.reverse.new.self.items c.take_disk-a.new.disks.items c.take_disk-b.new.disks.items c.take_disk-a.result c.take_disk-b.result is c.reverse.ensures.items c.take_disk-a.ensures.taken c.take_disk-b.ensures.taken in
    let e = c.in-Err.ensures in
    unmounted_index g.D.Disk c.args.sacks old c.take_disk-a.result c.take_disk-b.result c.take_disk-b.new.disks.items takes c.in-Err.a c.in-Err.b c.in-Err.fault c.give_back.result.items c.args.room.sacks.items c.requires.empty c.give_back.ensures.all
    (record { unwritten = e.unwritten_err; came_a = e.came_err.0; came_b = e.came_err.1; cause = e.cause; never = e.never_held })

pub invariant_of-result : goal.invariant_of-result
invariant_of-result g c =
    let Opened = IsMountedSack g.D.Disk c.args.sacks in
    let Unopened = λ (k : ℕ) (was now : SackDisks _) (e : ℕ × MountFault). (e.0 ≡ k) × IsUnmounted g.D.Disk (sack_place c.args.sacks k) was now e.1 in
    let plan = on_plan c.args.sacks c.args.disks.items c.requires.planned in
    let takes = takes_index plan.from c.args.disks.items c.reverse.new.self.items c.take_disk-a.new.disks.items c.take_disk-b.new.disks.items c.take_disk-a.result c.take_disk-b.result plan.are c.reverse.ensures.items c.take_disk-a.ensures.taken c.take_disk-b.ensures.taken in
    let many : length plan.from.sacks + 0 ≡ c.args.sacks = omega (arith, plan.many) in
    let opened = all_opened Opened Unopened plan.from.sacks c.mount_sacks.new.disks.items c.args.room.sacks.items c.mount_sacks.new.opened.items c.mount_sacks.result c.requires.empty c.in-Ok-mount_sacks.is (c.mount_sacks.ensures.opens plan.from.sacks takes.rest_is many) in
    let disks : vec_len c.take_disk-b.new.disks ≡ 5 * c.args.sacks = omega (arith, c.requires.planned, c.args.disks.ok.0, c.reverse.ensures.len, c.take_disk-a.ensures.fewer, c.take_disk-b.ensures.fewer) in
    record {
      some = c.requires.some;
      few = c.requires.few;
      as_many = omega (arith, c.mount_sacks.ensures.together, c.in-Ok-mount_sacks.ensures.emptied, disks, c.args.room.sacks.ok.0, ap length c.requires.empty, c.mount_sacks.new.opened.ok.0);
      in_place = opened_in_place Opened c.args.sacks 0 plan.from.sacks c.mount_sacks.new.opened.items (λ k d v is. is.place) opened.are;
      claims = ap length c.requires.unclaimed ∙ length-replicate c.args.sacks _;
      emptied = c.in-Ok-mount_sacks.ensures.emptied;
      room = omega (arith, c.mount_sacks.ensures.disk_room, c.requires.planned, c.args.disks.ok.0, c.args.disks.ok.1, c.reverse.ensures.capacity, c.take_disk-a.ensures.room, c.take_disk-b.ensures.room);
    }

pub give_back-requires-in-Err-mount_sacks : goal.give_back-requires-in-Err-mount_sacks
give_back-requires-in-Err-mount_sacks g c =
    omega (arith, c.mount_sacks.ensures.together, c.mount_sacks.ensures.disk_room, c.requires.planned, c.args.disks.ok.0, c.args.disks.ok.1, c.reverse.ensures.len, c.reverse.ensures.capacity, c.take_disk-a.ensures.fewer, c.take_disk-b.ensures.fewer, c.take_disk-a.ensures.room, c.take_disk-b.ensures.room, c.args.room.sacks.ok.0, ap length c.requires.empty)

pub returns-in-Ok-mount_sacks-clause-mounted : goal.returns-in-Ok-mount_sacks-clause-mounted
returns-in-Ok-mount_sacks-clause-mounted g c old is =
    let Opened = IsMountedSack g.D.Disk c.args.sacks in
    let Unopened = λ (k : ℕ) (was now : SackDisks _) (e : ℕ × MountFault). (e.0 ≡ k) × IsUnmounted g.D.Disk (sack_place c.args.sacks k) was now e.1 in
    let takes = takes_index old c.args.disks.items c.reverse.new.self.items c.take_disk-a.new.disks.items c.take_disk-b.new.disks.items c.take_disk-a.result c.take_disk-b.result is c.reverse.ensures.items c.take_disk-a.ensures.taken c.take_disk-b.ensures.taken in
    let disks : length c.take_disk-b.new.disks.items ≡ 5 * c.args.sacks = omega (arith, c.requires.planned, c.args.disks.ok.0, c.reverse.ensures.len, c.take_disk-a.ensures.fewer, c.take_disk-b.ensures.fewer, c.take_disk-b.new.disks.ok.0) in
    let many = as_many_left old.sacks c.take_disk-b.new.disks.items c.args.sacks takes.rest_is disks in
    let opened = all_opened Opened Unopened old.sacks c.mount_sacks.new.disks.items c.args.room.sacks.items c.mount_sacks.new.opened.items c.mount_sacks.result c.requires.empty c.in-Ok-mount_sacks.is (c.mount_sacks.ensures.opens old.sacks takes.rest_is many) in
    let e = c.in-Ok.ensures in
    mounted_on g.D.Disk c.args.sacks old c.take_disk-a.result c.take_disk-b.result c.take_disk-b.new.disks.items takes _
    (mounted_index g.D.Disk c.args.sacks c.take_disk-a.result c.take_disk-b.result c.in-Ok.index e.made.0 e.made.2 e.held e.exact e.stands e.unwritten e.came) opened.are c.of-first.ensures

pub returns-in-Err-mount_sacks-clause-unmounted : goal.returns-in-Err-mount_sacks-clause-unmounted
returns-in-Err-mount_sacks-clause-unmounted g c old is =
    let Opened = IsMountedSack g.D.Disk c.args.sacks in
    let Unopened = λ (k : ℕ) (was now : SackDisks _) (e : ℕ × MountFault). (e.0 ≡ k) × IsUnmounted g.D.Disk (sack_place c.args.sacks k) was now e.1 in
    let takes = takes_index old c.args.disks.items c.reverse.new.self.items c.take_disk-a.new.disks.items c.take_disk-b.new.disks.items c.take_disk-a.result c.take_disk-b.result is c.reverse.ensures.items c.take_disk-a.ensures.taken c.take_disk-b.ensures.taken in
    let disks : length c.take_disk-b.new.disks.items ≡ 5 * c.args.sacks = omega (arith, c.requires.planned, c.args.disks.ok.0, c.reverse.ensures.len, c.take_disk-a.ensures.fewer, c.take_disk-b.ensures.fewer, c.take_disk-b.new.disks.ok.0) in
    let many = as_many_left old.sacks c.take_disk-b.new.disks.items c.args.sacks takes.rest_is disks in
    let err = c.in-Err-mount_sacks in
    let e = c.in-Ok.ensures in
    let opened = some_opened Opened Unopened old.sacks c.mount_sacks.new.disks.items c.args.room.sacks.items c.mount_sacks.new.opened.items c.mount_sacks.result c.requires.empty (err.sack, err.fault) err.is (c.mount_sacks.ensures.opens old.sacks takes.rest_is many) in
    unmounted_sack g.D.Disk c.args.sacks old c.take_disk-a.result c.take_disk-b.result c.take_disk-b.new.disks.items takes c.in-Ok.index c.into_disks-a.result.0 c.into_disks-a.result.1 c.mount_sacks.new.disks.items c.give_back-in-Err-mount_sacks.result.items c.mount_sacks.new.opened.items err.sack err.fault c.told_in_store.result
    (mounted_index g.D.Disk c.args.sacks c.take_disk-a.result c.take_disk-b.result c.in-Ok.index e.made.0 e.made.2 e.held e.exact e.stands e.unwritten e.came) c.into_disks-a.ensures opened c.give_back-in-Err-mount_sacks.ensures.all c.told_in_store.ensures

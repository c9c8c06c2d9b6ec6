use Rattle.std.proofs.Common.{ℕ, length, sym, ap, ◌∙◌, arith}
use Rattle.std.proofs.lemmas.List.{length-replicate}
use Rattle.sack_state.specs.Books.{IsUnmade}
use Rattle.front.specs.Making.{IsMadeSack}
use Rattle.front.specs.Plan.{sack_place}
use Rattle.front.proofs.Created.{all_opened, as_many_left, made_index, some_opened, unmade_index, unmade_sack}
use Rattle.front.proofs.Groups.{of_five_back, opened_in_place}
use Rattle.front.proofs.solo.Solo.create_books.Goals as goal

pub give_back-requires : goal.give_back-requires
give_back-requires g c =
    omega (arith, c.make_sacks.ensures.together, c.make_sacks.ensures.disk_room, c.requires.planned, c.requires.wide, c.args.room.sacks.ok.0, ap length c.requires.empty)

pub returns-in-Err-clause-uncreated : goal.returns-in-Err-clause-uncreated
returns-in-Err-clause-uncreated g c left is =
    let Opened = IsMadeSack g.D.Disk c.args.sacks in
    let Unopened = λ (k : ℕ). IsUnmade g.D.Disk (sack_place c.args.sacks k) in
    let many = as_many_left left c.args.disks.items c.args.sacks is (sym c.args.disks.ok.0 ∙ c.requires.planned) in
    unmade_sack g.D.Disk c.args.sacks c.args.number c.args.a c.args.b left c.make_sacks.new.disks.items c.give_back.result.items c.make_sacks.new.opened.items c.in-Err.fault
    (some_opened Opened Unopened left c.make_sacks.new.disks.items c.args.room.sacks.items c.make_sacks.new.opened.items c.make_sacks.result c.requires.empty c.in-Err.fault c.in-Err.is (c.make_sacks.ensures.opens left is many))
    c.give_back.ensures.all

pub invariant_of-result : goal.invariant_of-result
invariant_of-result g c =
    let Opened = IsMadeSack g.D.Disk c.args.sacks in
    let Unopened = λ (k : ℕ). IsUnmade g.D.Disk (sack_place c.args.sacks k) in
    let back = of_five_back c.args.sacks c.args.disks.items (sym c.args.disks.ok.0 ∙ c.requires.planned) in
    let many = as_many_left back.groups c.args.disks.items c.args.sacks back.are (sym c.args.disks.ok.0 ∙ c.requires.planned) in
    let opened = all_opened Opened Unopened back.groups c.make_sacks.new.disks.items c.args.room.sacks.items c.make_sacks.new.opened.items c.make_sacks.result c.requires.empty c.in-Ok.is (c.make_sacks.ensures.opens back.groups back.are many) in
    record {
      some = c.requires.some;
      few = c.requires.few;
      as_many = omega (arith, c.make_sacks.ensures.together, c.in-Ok.ensures.emptied, c.requires.planned, c.args.room.sacks.ok.0, ap length c.requires.empty, c.make_sacks.new.opened.ok.0);
      in_place = opened_in_place Opened c.args.sacks 0 back.groups c.make_sacks.new.opened.items (λ k d v is. is.place) opened.are;
      claims = ap length c.requires.unclaimed ∙ length-replicate c.args.sacks _;
      emptied = c.in-Ok.ensures.emptied;
      room = omega (arith, c.make_sacks.ensures.disk_room, c.requires.wide);
    }

pub give_back-requires-in-Err-create : goal.give_back-requires-in-Err-create
give_back-requires-in-Err-create g c =
    omega (arith, c.make_sacks.ensures.together, c.make_sacks.ensures.disk_room, c.requires.planned, c.requires.wide, c.args.room.sacks.ok.0, ap length c.requires.empty)

pub returns-in-Ok-create-clause-created : goal.returns-in-Ok-create-clause-created
returns-in-Ok-create-clause-created g c left is =
    let Opened = IsMadeSack g.D.Disk c.args.sacks in
    let Unopened = λ (k : ℕ). IsUnmade g.D.Disk (sack_place c.args.sacks k) in
    let many = as_many_left left c.args.disks.items c.args.sacks is (sym c.args.disks.ok.0 ∙ c.requires.planned) in
    let opened = all_opened Opened Unopened left c.make_sacks.new.disks.items c.args.room.sacks.items c.make_sacks.new.opened.items c.make_sacks.result c.requires.empty c.in-Ok.is (c.make_sacks.ensures.opens left is many) in
    let e = c.in-Ok-create.ensures in
    record {
      sacks = opened.are;
      index = made_index g.D.Disk c.args.sacks c.args.number c.args.a c.args.b c.in-Ok-create.index e.made.0 e.made.1 e.stands e.any_moment e.came;
      opened = c.of-first.ensures;
    }

pub returns-in-Err-create-clause-uncreated : goal.returns-in-Err-create-clause-uncreated
returns-in-Err-create-clause-uncreated g c left is =
    let Opened = IsMadeSack g.D.Disk c.args.sacks in
    let Unopened = λ (k : ℕ). IsUnmade g.D.Disk (sack_place c.args.sacks k) in
    let many = as_many_left left c.args.disks.items c.args.sacks is (sym c.args.disks.ok.0 ∙ c.requires.planned) in
    let opened = all_opened Opened Unopened left c.make_sacks.new.disks.items c.args.room.sacks.items c.make_sacks.new.opened.items c.make_sacks.result c.requires.empty c.in-Ok.is (c.make_sacks.ensures.opens left is many) in
    let e = c.in-Err-create in
    unmade_index g.D.Disk c.args.sacks c.args.number c.args.a c.args.b left c.make_sacks.new.disks.items c.give_back-in-Err-create.result.items c.make_sacks.new.opened.items e.a e.b e.fault _ opened e.ensures.any_moment_err e.ensures.came_err e.ensures.cause c.give_back-in-Err-create.ensures.all

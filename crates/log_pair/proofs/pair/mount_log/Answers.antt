use Rattle.std.proofs.Common.{arith}
use Rattle.std.specs.Option.{IfSome}
use Rattle.log_pair.specs.Inside.{behind_header}
use Rattle.log_pair.specs.Pair.{HoldsPair}
use Rattle.log_pair.proofs.Images.{image_held, images_of, older_image, older_synced}
use Rattle.log_pair.proofs.Mounted.{mounted_header, mounted_held, mounted_exact, told_short}
use Rattle.log_pair.proofs.pair.mount_log.Goals as goal

pub invariant_of-result : goal.invariant_of-result
invariant_of-result g c =
    let log = c.in-Ok.log in
    let epoch = c.args.choice.epoch in
    let told = g.D.Disk.told c.args.chosen in
    record {
      fits = c.requires.fits;
      in_range = c.requires.epoch;
      some = omega (arith, c.count.ensures.value, c.if-count-eq0.false);
      header = mounted_header c.args.place epoch told log.records c.count.result c.in-Ok.ensures.told c.in-Ok.ensures.held c.requires.header (told_short told (g.D.Disk.size c.args.chosen) (g.met.D.Disk.whole c.args.chosen) (omega (arith, c.len-size.ensures.value, c.len-size.ensures.limit))) c.count.ensures.told c.if-count-eq0.false;
      older = older_synced (g.D.Disk.told c.args.other) (g.D.Disk.may_leave c.args.other) c.args.choice.on_second epoch c.requires.older c.requires.synced;
    }

pub returns-clause-held : goal.returns-clause-held
returns-clause-held g c =
    mounted_held c.args.place c.args.choice.epoch (g.D.Disk.told c.args.chosen) (g.D.Disk.told c.args.other) c.in-Ok.log.records c.in-Ok.ensures.held (invariant_of-result g c).header

pub returns-clause-exact : goal.returns-clause-exact
returns-clause-exact g c =
    mounted_exact c.args.place c.args.choice.epoch (g.D.Disk.told c.args.chosen) (g.D.Disk.told c.args.other) c.in-Ok.log.records c.in-Ok.ensures.exact

pub returns-clause-durable : goal.returns-clause-durable
returns-clause-durable g c =
    let log = c.in-Ok.log in
    let place = c.args.place in
    let epoch = c.args.choice.epoch in
    let s = c.args.choice.on_second in
    let told = g.D.Disk.told c.args.other in
    let i = invariant_of-result g c in
    images_of g.D.Disk s log.disk c.args.other (λ a b. IfSome (behind_header told log.records) (λ rs. HoldsPair place epoch rs a b))
    (λ x y left left_too. image_held place epoch s c.requires.fits c.requires.epoch told log.records x y i.header (c.in-Ok.ensures.durable x left) (older_image told (g.D.Disk.may_leave c.args.other) s epoch y i.older left_too))

use Rattle.std.proofs.Common.{[], ap, sym, subst, ◌∙◌, arith}
use Rattle.std.specs.Option.{IfSome}
use Rattle.gno_disk.specs.Disk.{Only}
use Rattle.log_pair.specs.declared.place.Place.{Place}
use Rattle.log_pair.specs.PairView.{IsMaking}
use Rattle.split_store.specs.Shelf.{shelf_place}
use Rattle.split_store.proofs.Held.{lasting_held, records_told}
use Rattle.split_store.proofs.LoadLemmas.{none_are}
use Rattle.split_store.proofs.Making.{making, untouched}
use Rattle.split_store.proofs.shelf.Shelf.create.Goals as goal

pub returns-in-Err-clause-any_moment_err : goal.returns-in-Err-clause-any_moment_err
returns-in-Err-clause-any_moment_err g c =
    making g.D.Disk c.args.place c.args.a c.args.b c.args.blocks c.args.a c.args.b c.sync.new.self c.sync.ensures.time.later
    (untouched g.D.Disk g.met.D.Disk.only_now (shelf_place c.args.place) c.args.a c.args.b)

pub returns-in-Err-clause-came_err : goal.returns-in-Err-clause-came_err
returns-in-Err-clause-came_err g c =
    (g.met.D.Disk.came_more 0 9 _ _ (omega arith) (g.met.D.Disk.came_none c.args.a), g.met.D.Disk.came_more 0 5 _ _ (omega arith) (g.met.D.Disk.came_none c.args.b), c.sync.ensures.came)

pub returns-in-Ok-create-clause-any_moment : goal.returns-in-Ok-create-clause-any_moment
returns-in-Ok-create-clause-any_moment g c =
    let pair = c.in-Ok-create.pair in
    making g.D.Disk c.args.place c.args.a c.args.b c.args.blocks pair.first pair.second c.sync.new.self c.sync.ensures.time.later
    (subst (λ p. IsMaking g.D.Disk p [] c.args.a c.args.b pair.first pair.second) c.place_of.ensures c.in-Ok-create.ensures.any_moment)

pub returns-in-Err-default-default-Memory-clause-any_moment_err : goal.returns-in-Err-default-default-Memory-clause-any_moment_err
returns-in-Err-default-default-Memory-clause-any_moment_err g c =
    let e = c.in-Err-default-default-Memory in
    making g.D.Disk c.args.place c.args.a c.args.b c.args.blocks e.a e.b c.sync.new.self c.sync.ensures.time.later
    (subst (λ p. IsMaking g.D.Disk p [] c.args.a c.args.b e.a e.b) c.place_of.ensures e.ensures.any_moment_err)

pub returns-in-Err-default-default-DiskFault-clause-any_moment_err : goal.returns-in-Err-default-default-DiskFault-clause-any_moment_err
returns-in-Err-default-default-DiskFault-clause-any_moment_err g c =
    let e = c.in-Err-default-default-DiskFault in
    making g.D.Disk c.args.place c.args.a c.args.b c.args.blocks e.a e.b c.sync.new.self c.sync.ensures.time.later
    (subst (λ p. IsMaking g.D.Disk p [] c.args.a c.args.b e.a e.b) c.place_of.ensures e.ensures.any_moment_err)

pub returns-in-Ok-create-clause-durable : goal.returns-in-Ok-create-clause-durable
returns-in-Ok-create-clause-durable g c lives a b z keeps left left_too left_last =
    let p = c.in-Ok-create in
    let pair = p.pair in
    let synced = c.sync.new.self in
    let told = g.D.Disk.told in
    let metrics = c.new.result.metrics in
    lasting_held g.D.Disk g.met.D.Disk.whole pair synced metrics (ap (λ (q : Place). q.role) (p.ensures.made.0 ∙ c.place_of.ensures))
    (records_told (told pair.first) (told pair.second) (told c.args.a) (told c.args.b) pair.records p.ensures.told (g.met.D.Disk.came_tells 9 _ _ p.ensures.came.0) (g.met.D.Disk.came_tells 5 _ _ p.ensures.came.1) keeps.first keeps.second)
    (none_are (g.D.Disk.size synced) metrics pair.records c.new.ensures.metrics p.ensures.records)
    (subst (λ o. IfSome o (λ bytes. Only bytes (g.D.Disk.may_leave synced))) (sym c.sync.ensures.told) c.in-Ok.ensures.durable)
    p.ensures.durable lives keeps.bytes a b z keeps.told keeps.held left left_too left_last

use Rattle.front.proofs.Created.{created_on, exists_on, if_err, if_ok, takes_index, uncreated_on, unlooked_on}
use Rattle.front.proofs.solo.Solo.create_on.Goals as goal

pub returns-in-Ok-true-clause-uncreated : goal.returns-in-Ok-true-clause-uncreated
returns-in-Ok-true-clause-uncreated g c old is =
    let takes = takes_index old c.args.disks.items c.reverse.new.self.items c.take_disk-a.new.disks.items c.take_disk-b.new.disks.items c.take_disk-a.result c.take_disk-b.result is c.reverse.ensures.items c.take_disk-a.ensures.taken c.take_disk-b.ensures.taken in
    let e = c.look_for_store.ensures in
    let ok = c.in-Ok-true.ensures in
    exists_on g.D.Disk c.args.sacks c.args.number old c.take_disk-a.result c.take_disk-b.result c.look_for_store.new.a c.look_for_store.new.b c.take_disk-b.new.disks.items takes e.leaves e.came
    c.give_back.result.items c.args.room.sacks.items c.requires.empty c.give_back.ensures.all (ok.untouched c.in-Ok-true.field-0-test) (ok.found c.in-Ok-true.field-0-test)

pub returns-in-Ok-false-clause-created : goal.returns-in-Ok-false-clause-created
returns-in-Ok-false-clause-created g c =
    let e = c.look_for_store.ensures in
    if_ok c.create_books.result _ _ (λ v made old is.
    let takes = takes_index old c.args.disks.items c.reverse.new.self.items c.take_disk-a.new.disks.items c.take_disk-b.new.disks.items c.take_disk-a.result c.take_disk-b.result is c.reverse.ensures.items c.take_disk-a.ensures.taken c.take_disk-b.ensures.taken in
    created_on g.D.Disk c.args.sacks c.args.number old c.take_disk-a.result c.take_disk-b.result c.look_for_store.new.a c.look_for_store.new.b c.take_disk-b.new.disks.items takes e.leaves e.came
    (c.in-Ok-false.ensures.free c.in-Ok-false.field-0-test) v (made old.sacks takes.rest_is)) c.create_books.ensures.created

pub returns-in-Ok-false-clause-uncreated : goal.returns-in-Ok-false-clause-uncreated
returns-in-Ok-false-clause-uncreated g c =
    let e = c.look_for_store.ensures in
    if_err c.create_books.result _ _ (λ err unmade old is.
    let takes = takes_index old c.args.disks.items c.reverse.new.self.items c.take_disk-a.new.disks.items c.take_disk-b.new.disks.items c.take_disk-a.result c.take_disk-b.result is c.reverse.ensures.items c.take_disk-a.ensures.taken c.take_disk-b.ensures.taken in
    uncreated_on g.D.Disk c.args.sacks c.args.number old c.take_disk-a.result c.take_disk-b.result c.look_for_store.new.a c.look_for_store.new.b c.take_disk-b.new.disks.items takes e.leaves e.came
    (c.in-Ok-false.ensures.free c.in-Ok-false.field-0-test) err.0.items err.1 (unmade old.sacks takes.rest_is)) c.create_books.ensures.uncreated

pub returns-in-Err-clause-uncreated : goal.returns-in-Err-clause-uncreated
returns-in-Err-clause-uncreated g c old is =
    let takes = takes_index old c.args.disks.items c.reverse.new.self.items c.take_disk-a.new.disks.items c.take_disk-b.new.disks.items c.take_disk-a.result c.take_disk-b.result is c.reverse.ensures.items c.take_disk-a.ensures.taken c.take_disk-b.ensures.taken in
    let e = c.look_for_store.ensures in
    unlooked_on g.D.Disk c.args.sacks c.args.number old c.take_disk-a.result c.take_disk-b.result c.look_for_store.new.a c.look_for_store.new.b c.take_disk-b.new.disks.items takes e.leaves e.came
    c.give_back-in-Err.result.items c.args.room.sacks.items c.in-Err.fault c.requires.empty c.give_back-in-Err.ensures.all c.in-Err.ensures.cause

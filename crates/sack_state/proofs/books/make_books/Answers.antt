use Rattle.std.proofs.Common.{[], sym, subst}
use Rattle.log_pair.specs.PairView.{IsMaking}
use Rattle.incoming.specs.Posts.{incoming_place}
use Rattle.sack_state.proofs.BookLemmas.{has_none, incoming_unmade, made_came, shelf_unmade}
use Rattle.sack_state.proofs.books.make_books.Goals as goal

pub returns-in-Err-clause-err : goal.returns-in-Err-clause-err
returns-in-Err-clause-err g c =
    let e = c.in-Err.ensures in
    let d = g.met.D.Disk in
    incoming_unmade g.D.Disk d.only_now d.came_none d.came_more d.came_later c.args.place c.args.disks c.in-Err.incoming_a c.in-Err.incoming_b e.came_err.0 e.came_err.1 e.any_moment_err c.in-Err.fault c.of_making-fault.result
    c.faults-before.result c.faults.result c.faults-before.ensures c.faults.ensures _ e.cause c.of_making-fault.ensures

pub returns-in-Ok-create-clause-ok : goal.returns-in-Ok-create-clause-ok
returns-in-Ok-create-clause-ok g c =
    let i = c.in-Ok.ensures in
    let s = c.in-Ok-create.ensures in
    let d = g.met.D.Disk in
    record {
      whole = record { incoming = i.made.2; shelf = s.made.2 };
      of_place = record { incoming = i.made.0; shelf = s.made.0 };
      has = has_none g.D.Disk d.only_now d.came_none d.came_more d.came_later c.args.place c.args.disks (record { incoming = c.in-Ok.incoming; shelf = c.in-Ok-create.shelf }) i.told i.posts i.empty.0 i.empty.1 s.keeps;
      lasting = record { incoming = i.durable; shelf = s.durable };
      making = record { incoming = i.any_moment; shelf = s.any_moment };
      came = made_came g.D.Disk d.only_now d.came_none d.came_more d.came_later c.args.place c.args.disks (record {
        incoming_a = c.in-Ok.incoming.first;
        incoming_b = c.in-Ok.incoming.second;
        shelf_a = c.in-Ok-create.shelf.first;
        shelf_b = c.in-Ok-create.shelf.second;
        blocks = c.in-Ok-create.shelf.blocks;
      }) i.came.0 i.came.1 s.came.0 s.came.1 s.came.2;
    }

pub returns-in-Err-create-clause-err : goal.returns-in-Err-create-clause-err
returns-in-Err-create-clause-err g c =
    let i = c.in-Ok.ensures in
    let s = c.in-Err-create.ensures in
    let d = g.met.D.Disk in
    let two = c.into_disks-incoming_a.result in
    let same = c.into_disks-incoming_a.ensures.disks in
    let old = c.args.disks in
    shelf_unmade g.D.Disk d.only_now d.came_none d.came_more d.came_later c.args.place old (record {
      incoming_a = two.0;
      incoming_b = two.1;
      shelf_a = c.in-Err-create.shelf_a;
      shelf_b = c.in-Err-create.shelf_b;
      blocks = c.in-Err-create.blocks;
    })
    (made_came g.D.Disk d.only_now d.came_none d.came_more d.came_later c.args.place old (record {
      incoming_a = two.0;
      incoming_b = two.1;
      shelf_a = c.in-Err-create.shelf_a;
      shelf_b = c.in-Err-create.shelf_b;
      blocks = c.in-Err-create.blocks;
    }) (subst (λ x. g.D.Disk.came 9 old.incoming_a x) (sym same.0) i.came.0) (subst (λ x. g.D.Disk.came 5 old.incoming_b x) (sym same.1) i.came.1) s.came_err.0 s.came_err.1 s.came_err.2)
    (record {
      incoming = subst (λ x. IsMaking g.D.Disk (incoming_place c.args.place) [] old.incoming_a old.incoming_b x two.1) (sym same.0)
          (subst (λ y. IsMaking g.D.Disk (incoming_place c.args.place) [] old.incoming_a old.incoming_b c.in-Ok.incoming.first y) (sym same.1) i.any_moment);
      shelf = s.any_moment_err;
    }) c.in-Err-create.fault c.of_making-fault-in-Err-create.result c.faults-before.result c.faults-in-Err-create.result c.faults-before.ensures c.faults-in-Err-create.ensures _ s.cause c.of_making-fault-in-Err-create.ensures

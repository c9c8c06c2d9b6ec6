use Rattle.std.proofs.Common.{[], ◌∷◌, sym, subst}
use Rattle.gno_disk.specs.Phases.{AreUnwritten, phase}
use Rattle.sack_state.proofs.BookLemmas.{books_have, incoming_unmounted, shelf_unmounted}
use Rattle.sack_state.proofs.books.mount_books.Goals as goal

pub returns-in-Err-clause-err : goal.returns-in-Err-clause-err
returns-in-Err-clause-err g c =
    let e = c.in-Err.ensures in
    let d = g.met.D.Disk in
    incoming_unmounted g.D.Disk d.only_now d.came_none d.came_more d.came_later c.args.place c.args.disks c.in-Err.incoming_a c.in-Err.incoming_b e.came_err.0 e.came_err.1 c.in-Err.fault c.on_incoming-fault.result
    c.faults-before.result c.faults.result c.faults-before.ensures c.faults.ensures e.unwritten_err e.cause e.never_held c.on_incoming-fault.ensures

pub returns-in-Ok-mount-clause-ok : goal.returns-in-Ok-mount-clause-ok
returns-in-Ok-mount-clause-ok g c =
    let i = c.in-Ok.ensures in
    let s = c.in-Ok-mount.ensures in
    record {
      whole = record { incoming = i.place.1; shelf = s.place.1 };
      of_place = record { incoming = i.place.0; shelf = s.place.0 };
      exact = books_have g.D.Disk c.args.place c.args.disks (record { incoming = c.in-Ok.incoming; shelf = c.in-Ok-mount.shelf }) i.exact c.next-next.ensures.marks s.keeps;
      lasting = record { incoming = i.durable; shelf = s.durable };
      unwritten = (i.unwritten.0, (i.unwritten.1.0, s.unwritten));
      came = record { incoming_a = i.came.0; incoming_b = i.came.1; shelf_a = s.came.0; shelf_b = s.came.1; blocks_disk = s.came.2 };
    }

pub returns-in-Err-mount-clause-err : goal.returns-in-Err-mount-clause-err
returns-in-Err-mount-clause-err g c =
    let i = c.in-Ok.ensures in
    let s = c.in-Err-mount.ensures in
    let d = g.met.D.Disk in
    let two = c.into_disks-incoming_a.result in
    let same = c.into_disks-incoming_a.ensures.disks in
    let old = c.args.disks in
    shelf_unmounted g.D.Disk d.only_now d.came_none d.came_more d.came_later c.args.place old two.0 two.1 c.in-Err-mount.shelf_a c.in-Err-mount.shelf_b c.in-Err-mount.blocks
    (subst (λ x. g.D.Disk.came 2 old.incoming_a x) (sym same.0) i.came.0) (subst (λ x. g.D.Disk.came 2 old.incoming_b x) (sym same.1) i.came.1) s.came_err.0 s.came_err.1 s.came_err.2
    c.in-Err-mount.fault c.on_shelf-fault.result c.faults-before.result c.faults-in-Err-mount.result c.faults-before.ensures c.faults-in-Err-mount.ensures
    (subst (λ x. AreUnwritten g.D.Disk (phase old.incoming_a x ∷ phase old.incoming_b two.1 ∷ [])) (sym same.0)
    (subst (λ y. AreUnwritten g.D.Disk (phase old.incoming_a c.in-Ok.incoming.first ∷ phase old.incoming_b y ∷ [])) (sym same.1) i.unwritten))
    s.unwritten_err s.cause s.never_held c.on_shelf-fault.ensures

use Rattle.std.proofs.Common.{◌≡◌, true, Some, refl, sym, ap, subst, ◌∙◌}
use Rattle.std.specs.Option.{IfSome}
use Rattle.sack_state.specs.declared.holding.Keeping.{Keeping}
use Rattle.sack_state.specs.declared.holding.Keeping.TheVariants.{Mounted, Apart}
use Rattle.sack_state.specs.Holding.{IsOfPlace, are_broken}
use Rattle.sack_state.proofs.HoldLemmas.{stays_by, stays_mounted, taken_by}
use Rattle.sack_state.proofs.holding.take_books.Goals as goal

pub returns-in-Ok-clause-ok : goal.returns-in-Ok-clause-ok
returns-in-Ok-clause-ok g c =
    let old = c.args.held.now in
    let books = c.in-Some-Mounted.books in
    let is : old ≡ Some (Mounted books) = sym c.take.ensures.value ∙ c.in-Some-Mounted.is ∙ ap (λ (h : Keeping _). Some h) c.in-Some-Mounted.field-0-is in
    let broken : are_broken books ≡ true = sym c.is_broken.ensures.value ∙ c.if-not-is_broken.false in
    taken_by g.D.Disk c.args.place old (Mounted books) is broken c.into_disks.result c.into_disks.ensures c.mount_into.result c.mount_into.ensures.ok

pub returns-in-Ok-clause-err : goal.returns-in-Ok-clause-err
returns-in-Ok-clause-err g c =
    let old = c.args.held.now in
    let books = c.in-Some-Mounted.books in
    let is : old ≡ Some (Mounted books) = sym c.take.ensures.value ∙ c.in-Some-Mounted.is ∙ ap (λ (h : Keeping _). Some h) c.in-Some-Mounted.field-0-is in
    let broken : are_broken books ≡ true = sym c.is_broken.ensures.value ∙ c.if-not-is_broken.false in
    stays_by g.D.Disk c.args.place old (Mounted books) is broken (record { disks = c.into_disks.result; metrics = c.in-Ok.metrics; pending = c.pending-pending.result; books = c.of-known.result }) c.into_disks.ensures c.of-known.ensures (c.in-Ok.ensures.items ∙ c.metrics.ensures.value) c.pending-pending.ensures
    c.mount_into.result c.mount_into.new.held c.mount_into.ensures.err

pub returns-in-Err-clause-err : goal.returns-in-Err-clause-err
returns-in-Err-clause-err g c =
    let old = c.args.held.now in
    let books = c.in-Some-Mounted.books in
    let d = g.met.D.Disk in
    let is : old ≡ Some (Mounted books) = sym c.take.ensures.value ∙ c.in-Some-Mounted.is ∙ ap (λ (h : Keeping _). Some h) c.in-Some-Mounted.field-0-is in
    let broken : are_broken books ≡ true = sym c.is_broken.ensures.value ∙ c.if-not-is_broken.false in
    stays_mounted g.D.Disk d.only_now d.came_none d.came_more c.args.place old c.put_back.new.held books is c.put_back.ensures broken (subst (λ o. IfSome o (IsOfPlace c.args.place)) is c.requires.of_place)

pub returns-in-Some-Apart-clause-ok : goal.returns-in-Some-Apart-clause-ok
returns-in-Some-Apart-clause-ok g c =
    let old = c.args.held.now in
    let remains = c.in-Some-Apart.remains in
    let is : old ≡ Some (Apart remains) = sym c.take.ensures.value ∙ c.in-Some-Apart.is ∙ ap (λ (h : Keeping _). Some h) c.in-Some-Apart.field-0-is in
    taken_by g.D.Disk c.args.place old (Apart remains) is refl remains.disks refl c.mount_into-in-Some-Apart.result c.mount_into-in-Some-Apart.ensures.ok

pub returns-in-Some-Apart-clause-err : goal.returns-in-Some-Apart-clause-err
returns-in-Some-Apart-clause-err g c =
    let old = c.args.held.now in
    let remains = c.in-Some-Apart.remains in
    let is : old ≡ Some (Apart remains) = sym c.take.ensures.value ∙ c.in-Some-Apart.is ∙ ap (λ (h : Keeping _). Some h) c.in-Some-Apart.field-0-is in
    let known = subst (λ o. IfSome o (IsOfPlace c.args.place)) is c.requires.of_place in
    stays_by g.D.Disk c.args.place old (Apart remains) is refl remains refl refl known.0 known.1
    c.mount_into-in-Some-Apart.result c.mount_into-in-Some-Apart.new.held c.mount_into-in-Some-Apart.ensures.err

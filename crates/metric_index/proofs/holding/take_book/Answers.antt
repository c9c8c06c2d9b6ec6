use Rattle.std.proofs.Common.{◌≡◌, true, Some, sym, ap, ◌∙◌}
use Rattle.metric_index.specs.declared.holding.Held.{Held}
use Rattle.metric_index.specs.declared.holding.Held.TheVariants.{Mounted, Apart}
use Rattle.metric_index.specs.Holding.{disks_in, maps_known}
use Rattle.metric_index.proofs.HoldLemmas.{apart_by, broken_book, broken_maps, taken_by}
use Rattle.metric_index.proofs.holding.take_book.Goals as goal

pub returns-else-not-is_broken-clause-ok : goal.returns-else-not-is_broken-clause-ok
returns-else-not-is_broken-clause-ok g c =
    let old = c.args.held.now in
    let book = c.in-Some-Mounted.book in
    let is : old ≡ Some (Mounted book) = sym c.take.ensures.value ∙ c.in-Some-Mounted.is ∙ ap (λ (h : Held _). Some h) c.in-Some-Mounted.field-0-is in
    let whole : book.broken ≡ true = sym c.is_broken.ensures.value ∙ c.if-not-is_broken.false in
    let d = c.into_disks-a.result in
    taken_by g.D.Disk old d.0 d.1 (broken_book old book d.0 d.1 is c.into_disks-a.ensures.disks.0 c.into_disks-a.ensures.disks.1) (broken_maps old book is whole) c.args.sacks c.mount_into.result c.mount_into.ensures.ok

pub returns-else-not-is_broken-clause-err : goal.returns-else-not-is_broken-clause-err
returns-else-not-is_broken-clause-err g c =
    let old = c.args.held.now in
    let book = c.in-Some-Mounted.book in
    let is : old ≡ Some (Mounted book) = sym c.take.ensures.value ∙ c.in-Some-Mounted.is ∙ ap (λ (h : Held _). Some h) c.in-Some-Mounted.field-0-is in
    let whole : book.broken ≡ true = sym c.is_broken.ensures.value ∙ c.if-not-is_broken.false in
    let d = c.into_disks-a.result in
    apart_by g.D.Disk old d.0 d.1 (broken_book old book d.0 d.1 is c.into_disks-a.ensures.disks.0 c.into_disks-a.ensures.disks.1) (broken_maps old book is whole) c.args.sacks c.mount_into.result c.mount_into.new.held c.mount_into.ensures.err

pub returns-in-Some-Apart-clause-ok : goal.returns-in-Some-Apart-clause-ok
returns-in-Some-Apart-clause-ok g c =
    let old = c.args.held.now in
    let a = c.in-Some-Apart.a in
    let b = c.in-Some-Apart.b in
    let is : old ≡ Some (Apart a b) = sym c.take.ensures.value ∙ c.in-Some-Apart.is ∙ ap (λ (h : Held _). Some h) c.in-Some-Apart.field-0-is in
    taken_by g.D.Disk old a b (ap disks_in is) (ap maps_known is) c.args.sacks c.mount_into-in-Some-Apart.result c.mount_into-in-Some-Apart.ensures.ok

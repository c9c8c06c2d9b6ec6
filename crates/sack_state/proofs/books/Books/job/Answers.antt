use Rattle.std.proofs.Common.{Some, refl, sym, ap, subst, ◌∙◌}
use Rattle.archive_policy.specs.Policies.{ArchivePolicy}
use Rattle.split_store.specs.Damage.{HasOddChunk}
use Rattle.sack_history.specs.declared.fault.SackFault.TheVariants as sack_fault
use Rattle.sack_state.specs.Claiming.{IsJobFrom, not_read, read}
use Rattle.sack_state.proofs.ReadingLemmas.{both_starved, job_is, log_failed, log_read, shelf_failed, then_read, untouched, untouched_starved}
use Rattle.sack_state.proofs.books.Books.job.Goals as goal

pub returns-in-Err : goal.returns-in-Err
returns-in-Err g c =
    let d = g.met.D.Disk in
    not_read sack_fault.Memory (untouched g.D.Disk d.only_now d.came_none d.came_later c.args.self.now) (untouched_starved g.D.Disk d.only_now d.came_none d.came_later c.args.self.now c.requires.whole) refl

pub returns-in-Err-batches : goal.returns-in-Err-batches
returns-in-Err-batches g c =
    let d = g.met.D.Disk in
    let e = c.in-Err-batches.ensures in
    not_read c.fault_of_posts.result (log_read g.D.Disk d.only_now d.came_none d.came_later c.args.self.now c.batches.new.self e.kept e.same.0 e.unwritten e.came)
    (log_failed g.D.Disk d.only_now d.came_none d.came_later c.args.self.now c.batches.new.self e.kept e.same.0 e.unwritten e.came c.in-Err-batches.fault c.fault_of_posts.result c.faults-before.result c.faults.result
    c.requires.whole c.faults-before.ensures c.faults.ensures e.left e.cause c.fault_of_posts.ensures) refl

pub returns-in-Err-raw_of : goal.returns-in-Err-raw_of
returns-in-Err-raw_of g c =
    let d = g.met.D.Disk in
    let l = c.in-Ok-batches.ensures in
    let e = c.in-Err-raw_of.ensures in
    not_read c.fault_of_shelf.result (then_read g.D.Disk d.only_now d.came_none d.came_later c.args.self.now c.batches.new.self l.kept l.same.0 l.unwritten l.came c.raw_of.new.self e.seen)
    (shelf_failed g.D.Disk d.only_now d.came_none d.came_later c.args.self.now c.batches.new.self l.kept l.same.0 l.unwritten l.came c.raw_of.new.self (HasOddChunk c.args.self.now.shelf.metrics c.args.metric) c.in-Err-raw_of.fault c.fault_of_shelf.result
    c.faults-before.result c.faults-in-Err-raw_of.result c.faults-before.ensures c.faults-in-Err-raw_of.ensures l.whole l.left e.left e.cause c.fault_of_shelf.ensures) refl

pub returns-in-Err-unnumbered : goal.returns-in-Err-unnumbered
returns-in-Err-unnumbered g c =
    let d = g.met.D.Disk in
    let l = c.in-Ok-batches.ensures in
    let e = c.in-Ok-raw_of.ensures in
    not_read sack_fault.Memory (then_read g.D.Disk d.only_now d.came_none d.came_later c.args.self.now c.batches.new.self l.kept l.same.0 l.unwritten l.came c.raw_of.new.self e.seen)
    (both_starved g.D.Disk d.only_now d.came_none d.came_later c.args.self.now c.batches.new.self l.kept l.same.0 l.unwritten l.came c.raw_of.new.self l.whole e.whole l.left e.left) refl

pub returns-in-Ok-unnumbered : goal.returns-in-Ok-unnumbered
returns-in-Ok-unnumbered g c =
    let d = g.met.D.Disk in
    let l = c.in-Ok-batches.ensures in
    let e = c.in-Ok-raw_of.ensures in
    read c.make.result
    (subst (IsJobFrom g.D.Disk c.args.self.now c.args.metric c.args.ticket) (sym c.make.ensures)
    (job_is g.D.Disk c.args.self.now c.args.metric c.args.ticket c.in-Some.done c.in-Ok.policy c.in-Ok-batches.posts.items (sym c.in-Some.ensures) (c.in-Some-policy_of.ensures ∙ ap (λ (x : ArchivePolicy). Some x) (sym c.in-Ok.ensures))
    l.numbers l.batches c.in-Ok-raw_of.base e.raw c.in-Ok-unnumbered.upto c.in-Ok-unnumbered.ensures.1 c.in-Ok-unnumbered.batches.items c.in-Ok-unnumbered.ensures.0))
    (then_read g.D.Disk d.only_now d.came_none d.came_later c.args.self.now c.batches.new.self l.kept l.same.0 l.unwritten l.came c.raw_of.new.self e.seen)
    (record { incoming = l.whole; shelf = e.whole }) (λ was. record { incoming = l.left; shelf = e.left }) refl

use Rattle.std.proofs.Common.{◌≡◌, Some, refl, sym, ap, ◌∙◌}
use Rattle.std.proofs.lemmas.Bool.{false≢true}
use Rattle.archive_policy.specs.Policies.{ArchivePolicy}
use Rattle.series_model.specs.declared.metric.MetricId.{MetricId}
use Rattle.split_store.specs.Damage.{HasOddChunk}
use Rattle.sack_state.specs.Committing.{not_read, other}
use Rattle.sack_state.proofs.ReadingLemmas.{log_failed, log_read, shelf_failed, then_read}
use Rattle.sack_state.proofs.BatchLemmas.{batches_to}
use Rattle.sack_state.proofs.WorkLemmas.{looked, other_batches}
use Rattle.sack_state.proofs.books.Books.is_work.Goals as goal

pub returns-in-Err : goal.returns-in-Err
returns-in-Err g c =
    let d = g.met.D.Disk in
    let e = c.in-Err.ensures in
    not_read c.fault_of_posts.result (log_read g.D.Disk d.only_now d.came_none d.came_later c.args.self.now c.batches.new.self e.kept e.same.0 e.unwritten e.came)
    (log_failed g.D.Disk d.only_now d.came_none d.came_later c.args.self.now c.batches.new.self e.kept e.same.0 e.unwritten e.came c.in-Err.fault c.fault_of_posts.result c.faults-before.result c.faults.result
    c.requires c.faults-before.ensures c.faults.ensures e.left e.cause c.fault_of_posts.ensures) refl

pub returns : goal.returns
returns g c =
    let d = g.met.D.Disk in
    let l = c.in-Ok.ensures in
    let e = c.in-Err-raw_of.ensures in
    not_read c.fault_of_shelf.result (then_read g.D.Disk d.only_now d.came_none d.came_later c.args.self.now c.batches.new.self l.kept l.same.0 l.unwritten l.came c.raw_of.new.self e.seen)
    (shelf_failed g.D.Disk d.only_now d.came_none d.came_later c.args.self.now c.batches.new.self l.kept l.same.0 l.unwritten l.came c.raw_of.new.self (HasOddChunk c.args.self.now.shelf.metrics c.args.claim.metric) c.in-Err-raw_of.fault c.fault_of_shelf.result
    c.faults-before.result c.faults-in-Err-raw_of.result c.faults-before.ensures c.faults-in-Err-raw_of.ensures l.whole l.left e.left e.cause c.fault_of_shelf.ensures) refl

pub returns-then-not-are_batches_up_to : goal.returns-then-not-are_batches_up_to
returns-then-not-are_batches_up_to g c =
    let d = g.met.D.Disk in
    let l = c.in-Ok.ensures in
    other (other_batches g.D.Disk c.args.self.now c.args.claim c.args.job.now c.in-Ok.posts.items c.in-Some.done (sym c.in-Some.ensures) l.batches
    (λ is. false≢true (sym c.if-not-are_batches_up_to.true ∙ c.are_batches_up_to.ensures.1 (c.batches-2.ensures ∙ is ∙ ap (λ x. batches_to c.args.claim.upto x) (sym c.as_slice.ensures.value)))))
    (log_read g.D.Disk d.only_now d.came_none d.came_later c.args.self.now c.batches.new.self l.kept l.same.0 l.unwritten l.came)
    (record { incoming = l.whole; shelf = c.requires.shelf }) (λ was. record { incoming = l.left; shelf = was.shelf }) refl

pub returns-in-Ok-raw_of : goal.returns-in-Ok-raw_of
returns-in-Ok-raw_of g c =
    let d = g.met.D.Disk in
    let l = c.in-Ok.ensures in
    let e = c.in-Ok-raw_of.ensures in
    let old = c.args.self.now in
    let claim = c.args.claim in
    let job = c.args.job.now in
    let metric : job.metric ≡ claim.metric = ap (λ n. let m : MetricId = record { 0 = n } in m) (sym (ap (λ (m : MetricId). m.0) c.metric.ensures) ∙ c.if-metric-claim.false) in
    let upto = sym c.upto.ensures ∙ c.if-upto-claim.false in
    let policy = c.in-Some-policy_of.ensures ∙ ap (λ (x : ArchivePolicy). Some x) (c.if-equals.ensures.0 refl ∙ c.policy.ensures) in
    let batches = sym c.batches-2.ensures ∙ c.are_batches_up_to.ensures.0 c.if-not-are_batches_up_to.false ∙ ap (λ x. batches_to claim.upto x) c.as_slice.ensures.value in
    looked g.D.Disk old claim job c.in-Ok.posts.items c.in-Some.done (sym c.in-Some.ensures) l.batches c.in-Ok-raw_of.base e.raw (record { incoming = c.batches.new.self; shelf = c.raw_of.new.self })
    metric upto policy batches (then_read g.D.Disk d.only_now d.came_none d.came_later old c.batches.new.self l.kept l.same.0 l.unwritten l.came c.raw_of.new.self e.seen)
    (record { incoming = l.whole; shelf = e.whole }) (λ was. record { incoming = l.left; shelf = e.left }) c.same_raw.result
    (λ is. c.same_raw.ensures.0 is ∙ c.base-in-Ok-raw_of.ensures) (λ is. c.same_raw.ensures.1 (is ∙ sym c.base-in-Ok-raw_of.ensures))

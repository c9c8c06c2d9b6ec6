use Rattle.std.proofs.Common.{◌≡◌, ◌≤◌, ◌∙◌, ℕ, List, map, ap, subst}
use Rattle.archive_policy.specs.Policies.{ArchivePolicy, AreDefinitions, AreKinds}
use Rattle.series_model.specs.declared.measure.Measure.{Measure}
use Rattle.series_model.specs.Accepted.{latest}
use Rattle.series_model.specs.Tail.{Tail, accepts_from, kept_window, members_of, tail_of}
use Rattle.series_model.proofs.Rising.{Rises_from_rising, times}
use Rattle.regroup.specs.Work.{AreTaken, lists_of}
use Rattle.regroup.proofs.Preparation.{work_prepared}
use Rattle.regroup.proofs.work.work_of.Goals as goal

pub returns : goal.returns
returns c =
    let job = c.args.job.now in
    let turned = c.in_ok-raw.field-0 in
    let policy : c.policy-policy.result.now ≡ job.policy = c.policy-policy.ensures in
    let points = map (λ v. v.items) c.in_ok-points.points.items in
    let T : ArchivePolicy → Tail → List (List Measure) → Type 0 =
    λ p base batches. (cut : ℕ) (accepted : List Measure) → cut ≤ accepts_from p (latest accepted) → base ≡ tail_of cut accepted → AreTaken p cut accepted batches turned.raw turned.from in
    let turns : T job.policy job.base job.batches =
    subst (T job.policy job.base) c.batches.ensures (subst (λ base. T job.policy base c.batches.result.now) c.base.ensures (subst (λ p. T p c.base.result.now c.batches.result.now) policy c.in_ok-raw.ensures)) in
    let C : ArchivePolicy → Type 0 =
    λ p. (cut : ℕ) (accepted : List Measure) → cut ≤ accepts_from p (latest accepted) → turned.raw ≡ tail_of cut accepted → c.cut.new.self ≡ kept_window p accepted in
    work_prepared job turned.raw c.cut.new.self points turned.from
    (subst (λ p. AreDefinitions p.definitions) policy c.in_ok-points.ensures.definitions)
    (subst (λ p. AreKinds p.kinds) policy c.in_ok-points.ensures.kinds)
    (Rises_from_rising (times (members_of turned.raw)) c.in_ok-points.ensures.rising)
    (c.in_ok-points.ensures.lists ∙ ap (λ (p : ArchivePolicy). lists_of p.kinds (members_of turned.raw) turned.from p.definitions) policy)
    turns
    (subst C policy c.cut.ensures.from_scratch)

use Rattle.std.proofs.Common.{◌≡◌, ◌*◌, List, [], ◌∷◌, ◌++◌, map, length, refl, sym, ap, subst, ◌∙◌}
use Rattle.std.specs.List.{All}
use Rattle.std.proofs.lemmas.List.Elements.{All-nil, All-cons}
use Rattle.archive_policy.specs.Policies.{ArchivePolicy}
use Rattle.series_model.specs.declared.point.Point.{Point}
use Rattle.bound_series.specs.Jobs.{JobView}
use Rattle.bound_series.proofs.Preparing.{empty_job}
use Rattle.bound_series.proofs.tests.prepared_for_none.Goals as goal

pub make-requires : goal.make-requires
make-requires c =
    let lists : map (λ v. v.items) c.push.new.self.items ≡ [] ∷ [] =
    ap (map (λ v. v.items)) (c.in_ok-push.ensures.items ∙ ap (λ l. l ++ c.new-2.result ∷ []) c.new-points.ensures.items) ∙ ap (λ l. l ∷ []) c.new-2.ensures.items in
    let none : List Point → Type 0 = λ l. l ≡ [] in
    let all : All none ([] ∷ []) = All-cons none [] [] refl (All-nil none) in
    let batches : c.make-job.result.batches ≡ [] = ap (λ (j : JobView). j.batches) c.make-job.ensures ∙ c.new.ensures.items in
    let base : c.make-job.result.base ≡ c.empty.result = ap (λ (j : JobView). j.base) c.make-job.ensures in
    let raw : c.empty-2.result ≡ c.make-job.result.base = c.empty-2.ensures ∙ sym c.empty.ensures ∙ sym base in
    let policy : c.make-job.result.policy ≡ c.in_ok-policy.field-0 = ap (λ (j : JobView). j.policy) c.make-job.ensures in
    let size : length c.make-job.result.policy.definitions * length c.make-job.result.policy.kinds ≡ 1 =
    ap (λ (p : ArchivePolicy). length p.definitions * length p.kinds) policy ∙ ap (λ n. n * length c.in_ok-policy.field-0.kinds) c.in_ok-policy.ensures.0
    ∙ ap (λ n. 1 * n) c.in_ok-policy.ensures.1 in
    empty_job _ batches raw refl (ap length lists ∙ sym size) (subst (λ l. All none l) (sym lists) all)

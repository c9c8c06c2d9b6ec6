use Rattle.std.proofs.Common.{◌≡◌, ◌<◌, ◌≤◌, ◌++◌, ◌∷◌, ◌∙◌, List, None, map, take, drop, sym, ap, subst}
use Rattle.std.specs.List.{All}
use Rattle.std.specs.List.Sorted.{IsStrictlyIncreasing}
use Rattle.series_model.specs.declared.metric.MetricId.{MetricId}
use Rattle.gno_codec.specs.declared.item.Block.{Block}
use Rattle.gno_codec.specs.declared.item.ShelfItem.TheVariants as items
use Rattle.shelf_records.specs.Book.{BookView, places_of}
use Rattle.shelf_records.specs.Filed.{IsFiled}
use Rattle.shelf_records.specs.Shelved.{Shelved, after_record, blocks_in_use, metric_of, registered}
use Rattle.shelf_records.specs.Slots.{AreHeld}
use Rattle.shelf_records.proofs.Metrics.{filed_more, ids_rise, number_of, register_at, register_blocks, register_ids, register_rising}
use Rattle.shelf_records.proofs.book.Book.register.Goals as goal

pub count_before-place-requires : goal.count_before-place-requires
count_before-place-requires c =
    ids_rise c.as_slice.result.now c.self.inside.metrics.items (c.as_slice.ensures.value ∙ c.self.invariant.ids) c.self.invariant.rising

pub invariant_of-self : goal.invariant_of-self
invariant_of-self c =
    let b = c.self.inside in
    let old = c.self.invariant in
    let f = c.args.filed in
    let p = c.count_before-place.result in
    let ids = c.as_slice.result.now in
    let are : ids ≡ map (λ (m : Shelved). m.id) b.metrics.items = c.as_slice.ensures.value ∙ old.ids in
    let before : All (λ (x : MetricId). x.0 < f.id.0) (take p ids) = subst (λ (i : MetricId). All (λ (x : MetricId). x.0 < i.0) (take p ids)) c.id-id.ensures.value c.count_before-place.ensures.before in
    let behind : All (λ (x : MetricId). f.id.0 ≤ x.0) (drop p ids) = subst (λ (i : MetricId). All (λ (x : MetricId). i.0 ≤ x.0) (drop p ids)) c.id-id.ensures.value c.count_before-place.ensures.behind in
    let absent : metric_of f.id b.metrics.items ≡ None = ap (λ (v : BookView). metric_of f.id v.metrics) c.self.view_is ∙ c.requires.absent in
    let new : c.put_metric.new.metrics.items ≡ take p b.metrics.items ++ registered f.id f.done f.policy ∷ drop p b.metrics.items = c.put_metric.ensures ∙ ap (λ (m : Shelved). take p b.metrics.items ++ m ∷ drop p b.metrics.items) c.requires.registered in
    let own : IsFiled (registered f.id f.done f.policy) = subst IsFiled c.requires.registered c.id-id.ensures.filed in
    let blocks = register_blocks b.metrics.items ids f.id f.done f.policy p are old.rising before behind absent in
    record {
      ids = c.put_id.ensures ∙ ap (λ (l : List MetricId). take p l ++ c.id-id.result ∷ drop p l) (sym c.as_slice.ensures.value) ∙ ap (λ (i : MetricId). take p ids ++ i ∷ drop p ids) c.id-id.ensures.value ∙ register_ids b.metrics.items ids f.id f.done f.policy p are old.rising before behind absent ∙ ap (map (λ (m : Shelved). m.id)) (sym new);
      rising = subst (λ (ms : List Shelved). IsStrictlyIncreasing (map number_of ms)) (sym new) (register_rising b.metrics.items ids f.id f.done f.policy p are old.rising before behind absent);
      filed = subst (All IsFiled) (sym new) (filed_more b.metrics.items p (registered f.id f.done f.policy) old.filed own);
      within = old.within;
      all = old.all;
      held = subst (λ (bs : List Block). AreHeld (take b.held b.taken.items ++ places_of bs) b.used) (sym blocks ∙ ap blocks_in_use (sym new)) old.held;
    }

pub returns-clause-metrics : goal.returns-clause-metrics
returns-clause-metrics c =
    let b = c.self.inside in
    let old = c.self.invariant in
    let f = c.args.filed in
    let p = c.count_before-place.result in
    let ids = c.as_slice.result.now in
    let are : ids ≡ map (λ (m : Shelved). m.id) b.metrics.items = c.as_slice.ensures.value ∙ old.ids in
    let before : All (λ (x : MetricId). x.0 < f.id.0) (take p ids) = subst (λ (i : MetricId). All (λ (x : MetricId). x.0 < i.0) (take p ids)) c.id-id.ensures.value c.count_before-place.ensures.before in
    let behind : All (λ (x : MetricId). f.id.0 ≤ x.0) (drop p ids) = subst (λ (i : MetricId). All (λ (x : MetricId). i.0 ≤ x.0) (drop p ids)) c.id-id.ensures.value c.count_before-place.ensures.behind in
    let absent : metric_of f.id b.metrics.items ≡ None = ap (λ (v : BookView). metric_of f.id v.metrics) c.self.view_is ∙ c.requires.absent in
    let new : c.put_metric.new.metrics.items ≡ take p b.metrics.items ++ registered f.id f.done f.policy ∷ drop p b.metrics.items = c.put_metric.ensures ∙ ap (λ (m : Shelved). take p b.metrics.items ++ m ∷ drop p b.metrics.items) c.requires.registered in
    new ∙ sym (register_at b.metrics.items ids f.id f.done f.policy p are old.rising before behind absent) ∙ ap (λ (v : BookView). after_record v.metrics (items.Register f.id f.done f.policy)) c.self.view_is

pub returns-clause-blocks : goal.returns-clause-blocks
returns-clause-blocks c =
    let b = c.self.inside in
    let old = c.self.invariant in
    let f = c.args.filed in
    let p = c.count_before-place.result in
    let ids = c.as_slice.result.now in
    let are : ids ≡ map (λ (m : Shelved). m.id) b.metrics.items = c.as_slice.ensures.value ∙ old.ids in
    let before : All (λ (x : MetricId). x.0 < f.id.0) (take p ids) = subst (λ (i : MetricId). All (λ (x : MetricId). x.0 < i.0) (take p ids)) c.id-id.ensures.value c.count_before-place.ensures.before in
    let behind : All (λ (x : MetricId). f.id.0 ≤ x.0) (drop p ids) = subst (λ (i : MetricId). All (λ (x : MetricId). i.0 ≤ x.0) (drop p ids)) c.id-id.ensures.value c.count_before-place.ensures.behind in
    let absent : metric_of f.id b.metrics.items ≡ None = ap (λ (v : BookView). metric_of f.id v.metrics) c.self.view_is ∙ c.requires.absent in
    let new : c.put_metric.new.metrics.items ≡ take p b.metrics.items ++ registered f.id f.done f.policy ∷ drop p b.metrics.items = c.put_metric.ensures ∙ ap (λ (m : Shelved). take p b.metrics.items ++ m ∷ drop p b.metrics.items) c.requires.registered in
    ap blocks_in_use new ∙ register_blocks b.metrics.items ids f.id f.done f.policy p are old.rising before behind absent ∙ ap (λ (v : BookView). blocks_in_use v.metrics) c.self.view_is

use Rattle.std.proofs.Common.{◌≡◌, ◌<◌, ◌+◌, ◌++◌, ◌∙◌, suc, List, Some, length, vec_len, map, take, drop, sym, ap, subst, arith, rules}
use Rattle.std.specs.List.{All, slice_get}
use Rattle.std.specs.List.Sorted.{IsStrictlyIncreasing}
use Rattle.std.proofs.lemmas.List.{length-map}
use Rattle.std.proofs.lemmas.Option.{get_or_from_slice_get, slice_get_within}
use Rattle.archive_policy.proofs.Rising.{Rises_from_rising}
use Rattle.gno_codec.specs.declared.item.ShelfItem.TheVariants as items
use Rattle.shelf_records.specs.Book.{BookView, IsPlaceOf, places_of}
use Rattle.shelf_records.specs.Filed.{IsFiled}
use Rattle.shelf_records.specs.Shelved.{AreBlocks, Shelved, after_record, blocks_in_use, blocks_of_metric}
use Rattle.shelf_records.specs.Slots.{AreHeld}
use Rattle.shelf_records.proofs.Metrics.{drop_all_blocks, drop_at, drop_filed, drop_held, drop_ids, drop_rising, number_of}
use Rattle.shelf_records.proofs.book.Book.drop_metric.Goals as goal

pub give_metric-requires-clause-held : goal.give_metric-requires-clause-held
give_metric-requires-clause-held c =
    let b = c.self.inside in
    let place = c.in-Some.place in
    let is : IsPlaceOf c.args.id c.args.self.now.metrics place = c.in-Some.ensures {u = tt} in
    let there : slice_get b.metrics.items place ≡ Some is.metric = ap (λ (v : BookView). slice_get v.metrics place) c.self.view_is ∙ is.there in
    let own : c.index.result.now ≡ is.metric = c.index.ensures ∙ get_or_from_slice_get b.metrics.items place is.metric c.index.result.now there in
    (_, subst (λ (m : Shelved). AreHeld (places_of (blocks_of_metric m) ++ (take b.held b.taken.items ++ places_of (blocks_in_use (take place b.metrics.items ++ drop (place + 1) b.metrics.items)))) b.used) (sym own) (drop_held (take b.held b.taken.items) b.metrics.items place is.metric b.used there c.self.invariant.held))

pub give_metric-requires-clause-sure : goal.give_metric-requires-clause-sure
give_metric-requires-clause-sure c =
    let b = c.self.inside in
    let place = c.in-Some.place in
    let is : IsPlaceOf c.args.id c.args.self.now.metrics place = c.in-Some.ensures {u = tt} in
    let there : slice_get b.metrics.items place ≡ Some is.metric = ap (λ (v : BookView). slice_get v.metrics place) c.self.view_is ∙ is.there in
    let own : c.index.result.now ≡ is.metric = c.index.ensures ∙ get_or_from_slice_get b.metrics.items place is.metric c.index.result.now there in
    let spare : b.used.spare ≡ c.args.self.now.spare = ap (λ (v : BookView). v.spare) c.self.view_is in
    omega (arith, c.requires.sure is.metric is.found, spare, ap (λ (m : Shelved). length (blocks_of_metric m)) own)

pub remove-requires : goal.remove-requires
remove-requires c =
    let b = c.self.inside in
    let place = c.in-Some.place in
    let is : IsPlaceOf c.args.id c.args.self.now.metrics place = c.in-Some.ensures {u = tt} in
    let there : slice_get b.metrics.items place ≡ Some is.metric = ap (λ (v : BookView). slice_get v.metrics place) c.self.view_is ∙ is.there in
    let below : place < length b.metrics.items = slice_get_within b.metrics.items place is.metric there in
    let long : vec_len b.ids ≡ length b.ids.items = search rules in
    let all : length b.ids.items ≡ length b.metrics.items = ap length c.self.invariant.ids ∙ length-map b.metrics.items (λ (m : Shelved). m.id) in
    omega (arith, below, long, all)

record Dropped (c : goal.After-drop-remove-5) : Type 0 where
  is : IsPlaceOf c.args.id c.self.inside.metrics.items c.in-Some.place
  held : AreHeld (take c.self.inside.held c.self.inside.taken.items ++ places_of (blocks_in_use (take c.in-Some.place c.self.inside.metrics.items ++ drop (c.in-Some.place + 1) c.self.inside.metrics.items))) c.give_metric.new.used
  new : c.remove-2.new.self.items ≡ take c.in-Some.place c.self.inside.metrics.items ++ drop (suc c.in-Some.place) c.self.inside.metrics.items
  next : suc c.in-Some.place ≡ c.in-Some.place + 1

dropped : (c : goal.After-drop-remove-5) → Dropped c
dropped c =
    let b = c.self.inside in
    let place = c.in-Some.place in
    let are : b.metrics.items ≡ c.args.self.now.metrics = ap (λ (v : BookView). v.metrics) c.self.view_is in
    let is : IsPlaceOf c.args.id b.metrics.items place = subst (λ (ms : List Shelved). IsPlaceOf c.args.id ms place) (sym are) (c.in-Some.ensures {u = tt}) in
    let own : c.index.result.now ≡ is.metric = c.index.ensures ∙ get_or_from_slice_get b.metrics.items place is.metric c.index.result.now is.there in
    let rest = take b.held b.taken.items ++ places_of (blocks_in_use (take place b.metrics.items ++ drop (place + 1) b.metrics.items)) in
    record {
      is = is;
      held = c.give_metric.ensures rest (subst (λ (m : Shelved). AreHeld (places_of (blocks_of_metric m) ++ rest) b.used) (sym own) (drop_held (take b.held b.taken.items) b.metrics.items place is.metric b.used is.there c.self.invariant.held));
      new = search rules;
      next = omega arith;
    }

pub invariant_of-self : goal.invariant_of-self
invariant_of-self c =
    let b = c.self.inside in
    let old = c.self.invariant in
    let place = c.in-Some.place in
    let d = dropped c in
    let ids : c.remove.new.self.items ≡ take place b.ids.items ++ drop (suc place) b.ids.items = search rules in
    record {
      ids = ids ∙ drop_ids b.ids.items b.metrics.items place old.ids ∙ ap (map (λ (m : Shelved). m.id)) (sym d.new);
      rising = subst (λ (ms : List Shelved). IsStrictlyIncreasing (map number_of ms)) (sym d.new) (drop_rising b.metrics.items place old.rising);
      filed = subst (All IsFiled) (sym d.new) (drop_filed b.metrics.items place old.filed);
      within = old.within;
      all = old.all;
      held = subst (λ (ms : List Shelved). AreHeld (take b.held b.taken.items ++ places_of (blocks_in_use ms)) c.give_metric.new.used) (ap (λ n. take place b.metrics.items ++ drop n b.metrics.items) (sym d.next) ∙ sym d.new) d.held;
    }

pub returns-clause-metrics : goal.returns-clause-metrics
returns-clause-metrics c =
    let b = c.self.inside in
    let place = c.in-Some.place in
    let d = dropped c in
    d.new ∙ ap (λ n. take place b.metrics.items ++ drop n b.metrics.items) d.next
    ∙ sym (drop_at c.args.id b.metrics.items place d.is.metric (Rises_from_rising (map number_of b.metrics.items) c.self.invariant.rising) d.is.there d.is.same)
    ∙ ap (λ (v : BookView). after_record v.metrics (items.Drop c.args.id)) c.self.view_is

pub returns-clause-blocks : goal.returns-clause-blocks
returns-clause-blocks c size blocks =
    let b = c.self.inside in
    let place = c.in-Some.place in
    let d = dropped c in
    let old : AreBlocks size b.metrics.items = subst (λ (v : BookView). AreBlocks size v.metrics) (sym c.self.view_is) blocks in
    subst (AreBlocks size) (ap (λ n. take place b.metrics.items ++ drop n b.metrics.items) (sym d.next) ∙ sym d.new)
    (drop_all_blocks size (take b.held b.taken.items) b.metrics.items place d.is.metric c.give_metric.new.used d.is.there d.held old)

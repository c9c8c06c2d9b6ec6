use Rattle.std.proofs.Common.{◌≡◌, ◌++◌, ◌∙◌, List, Some, length, vec_len, map, set, sym, ap, subst, arith, rules}
use Rattle.std.specs.List.{All, slice_get}
use Rattle.std.specs.List.Sorted.{IsStrictlyIncreasing}
use Rattle.std.proofs.lemmas.Option.{get_or_from_slice_get, slice_get_within}
use Rattle.gno_codec.specs.declared.item.Change.{Change}
use Rattle.gno_codec.specs.declared.item.ShelfItem.TheVariants as items
use Rattle.shelf_records.specs.Book.{BookView, IsPlaceOf, freed_blocks, places_of}
use Rattle.shelf_records.specs.Filed.{IsFiled}
use Rattle.shelf_records.specs.Shelved.{AreBlocks, Kept, MayFollow, Shelved, after_record, blocks_in_use, committed, kept_after}
use Rattle.shelf_records.specs.Slots.{AreHeld, IsWithin}
use Rattle.shelf_records.proofs.Metrics.{commit_blocks, commit_filed, commit_held, commit_ids, commit_is, commit_rising, number_of}
use Rattle.shelf_records.proofs.book.Book.settle.Goals as goal

pub give_freed-requires-clause-held : goal.give_freed-requires-clause-held
give_freed-requires-clause-held c =
    let b = c.self.inside in
    let item = c.args.item in
    let place = c.in-Some.place in
    let are : b.metrics.items ≡ c.args.self.now.metrics = ap (λ (v : BookView). v.metrics) c.self.view_is in
    let is : IsPlaceOf item.metric b.metrics.items place = subst (λ (ms : List Shelved). IsPlaceOf item.metric ms place) (sym are) (c.in-Some.ensures {u = tt}) in
    let live : MayFollow b.metrics.items (items.Commit item) = subst (λ (ms : List Shelved). MayFollow ms (items.Commit item)) (sym are) c.requires.live in
    let taken : b.taken.items ≡ c.args.self.now.taken = ap (λ (v : BookView). v.taken) c.self.view_is in
    let own : c.index.result.now ≡ is.metric = c.index.ensures ∙ get_or_from_slice_get b.metrics.items place is.metric c.index.result.now is.there in
    let all = c.self.invariant.all (subst (All IsWithin) (sym taken) c.requires.within) in
    let after = places_of (blocks_in_use (set b.metrics.items place (committed item is.metric))) in
    let held = commit_held b.metrics.items item place is c.self.invariant.rising c.self.invariant.filed live c.requires.order b.held b.taken.items b.used (c.requires.taken ∙ sym taken) all c.self.invariant.held in
    (after, subst (λ (m : Shelved). AreHeld (places_of (freed_blocks m c.items.result.now) ++ after) b.used) (sym own) (subst (λ (cs : List Change). AreHeld (places_of (freed_blocks is.metric cs) ++ after) b.used) (sym c.items.ensures) held))

pub give_freed-requires-clause-sure : goal.give_freed-requires-clause-sure
give_freed-requires-clause-sure c =
    let b = c.self.inside in
    let item = c.args.item in
    let place = c.in-Some.place in
    let are : b.metrics.items ≡ c.args.self.now.metrics = ap (λ (v : BookView). v.metrics) c.self.view_is in
    let is : IsPlaceOf item.metric c.args.self.now.metrics place = c.in-Some.ensures {u = tt} in
    let there : slice_get b.metrics.items place ≡ Some is.metric = ap (λ (ms : List Shelved). slice_get ms place) are ∙ is.there in
    let own : c.index.result.now ≡ is.metric = c.index.ensures ∙ get_or_from_slice_get b.metrics.items place is.metric c.index.result.now there in
    let spare : b.used.spare ≡ c.args.self.now.spare = ap (λ (v : BookView). v.spare) c.self.view_is in
    omega (arith, c.requires.sure is.metric is.found, spare, ap (λ (m : Shelved). length m.chunks) own, ap length c.items.ensures)

pub index_mut-requires : goal.index_mut-requires
index_mut-requires c =
    let b = c.self.inside in
    let place = c.in-Some.place in
    let are : b.metrics.items ≡ c.args.self.now.metrics = ap (λ (v : BookView). v.metrics) c.self.view_is in
    let is : IsPlaceOf c.args.item.metric c.args.self.now.metrics place = c.in-Some.ensures {u = tt} in
    let there : slice_get b.metrics.items place ≡ Some is.metric = ap (λ (ms : List Shelved). slice_get ms place) are ∙ is.there in
    let long : vec_len b.metrics ≡ length b.metrics.items = search rules in
    rw long (slice_get_within b.metrics.items place is.metric there)

pub settle-requires : goal.settle-requires
settle-requires c =
    let b = c.self.inside in
    let place = c.in-Some.place in
    let are : b.metrics.items ≡ c.args.self.now.metrics = ap (λ (v : BookView). v.metrics) c.self.view_is in
    let is : IsPlaceOf c.args.item.metric c.args.self.now.metrics place = c.in-Some.ensures {u = tt} in
    let there : slice_get b.metrics.items place ≡ Some is.metric = ap (λ (ms : List Shelved). slice_get ms place) are ∙ is.there in
    let own : c.index_mut.result.now ≡ is.metric = c.index_mut.ensures.value ∙ get_or_from_slice_get b.metrics.items place is.metric c.index_mut.result.now there in
    c.requires.kept is.metric is.found ∙ ap (λ (m : Shelved). map (λ (k : Kept). k.splits) (map (kept_after c.args.item.changes) m.kept)) (sym own)

-- what stands once all is done
record Done (c : goal.After-self-2-1) : Type 0 where
  is : IsPlaceOf c.args.item.metric c.self.inside.metrics.items c.in-Some.place
  live : MayFollow c.self.inside.metrics.items (items.Commit c.args.item)
  new : c.settle.new.self ≡ committed c.args.item is.metric
  held : AreHeld (places_of (blocks_in_use (set c.self.inside.metrics.items c.in-Some.place (committed c.args.item is.metric)))) c.give_freed.new.used

done : (c : goal.After-self-2-1) → Done c
done c =
    let b = c.self.inside in
    let item = c.args.item in
    let place = c.in-Some.place in
    let are : b.metrics.items ≡ c.args.self.now.metrics = ap (λ (v : BookView). v.metrics) c.self.view_is in
    let is : IsPlaceOf item.metric b.metrics.items place = subst (λ (ms : List Shelved). IsPlaceOf item.metric ms place) (sym are) (c.in-Some.ensures {u = tt}) in
    let live : MayFollow b.metrics.items (items.Commit item) = subst (λ (ms : List Shelved). MayFollow ms (items.Commit item)) (sym are) c.requires.live in
    let taken : b.taken.items ≡ c.args.self.now.taken = ap (λ (v : BookView). v.taken) c.self.view_is in
    let own : c.index.result.now ≡ is.metric = c.index.ensures ∙ get_or_from_slice_get b.metrics.items place is.metric c.index.result.now is.there in
    let mine : c.index_mut.result.now ≡ is.metric = c.index_mut.ensures.value ∙ get_or_from_slice_get b.metrics.items place is.metric c.index_mut.result.now is.there in
    let all = c.self.invariant.all (subst (All IsWithin) (sym taken) c.requires.within) in
    let after = places_of (blocks_in_use (set b.metrics.items place (committed item is.metric))) in
    let held = commit_held b.metrics.items item place is c.self.invariant.rising c.self.invariant.filed live c.requires.order b.held b.taken.items b.used (c.requires.taken ∙ sym taken) all c.self.invariant.held in
    record {
      is = is;
      live = live;
      new = c.settle.ensures ∙ ap (committed item) mine;
      held = c.give_freed.ensures after (subst (λ (m : Shelved). AreHeld (places_of (freed_blocks m c.items.result.now) ++ after) b.used) (sym own) (subst (λ (cs : List Change). AreHeld (places_of (freed_blocks is.metric cs) ++ after) b.used) (sym c.items.ensures) held));
    }

pub invariant_of-self : goal.invariant_of-self
invariant_of-self c =
    let b = c.self.inside in
    let old = c.self.invariant in
    let item = c.args.item in
    let place = c.in-Some.place in
    let d = done c in
    let same : set b.metrics.items place c.settle.new.self ≡ set b.metrics.items place (committed item d.is.metric) = ap (set b.metrics.items place) d.new in
    record {
      ids = old.ids ∙ sym (commit_ids b.metrics.items item place d.is old.rising old.filed d.live c.requires.order) ∙ ap (map (λ (m : Shelved). m.id)) (sym same);
      rising = subst (λ (ms : List Shelved). IsStrictlyIncreasing (map number_of ms)) (sym same) (commit_rising b.metrics.items item place d.is old.rising old.filed d.live c.requires.order);
      filed = subst (All IsFiled) (sym same) (commit_filed b.metrics.items item place d.is old.rising old.filed d.live c.requires.order);
      within = omega arith;
      all = λ h. sym (ap length c.clear.ensures.items);
      held = subst (λ (ms : List Shelved). AreHeld (places_of (blocks_in_use ms)) c.give_freed.new.used) (sym same) d.held;
    }

pub returns-clause-metrics : goal.returns-clause-metrics
returns-clause-metrics c =
    let b = c.self.inside in
    let d = done c in
    ap (set b.metrics.items c.in-Some.place) d.new
    ∙ sym (commit_is b.metrics.items c.args.item c.in-Some.place d.is c.self.invariant.rising c.self.invariant.filed d.live c.requires.order)
    ∙ ap (λ (v : BookView). after_record v.metrics (items.Commit c.args.item)) c.self.view_is

pub returns-clause-blocks : goal.returns-clause-blocks
returns-clause-blocks c size blocks fresh =
    let b = c.self.inside in
    let d = done c in
    let old : AreBlocks size b.metrics.items = subst (λ (v : BookView). AreBlocks size v.metrics) (sym c.self.view_is) blocks in
    subst (AreBlocks size) (ap (set b.metrics.items c.in-Some.place) (sym d.new))
    (commit_blocks b.metrics.items c.args.item c.in-Some.place d.is c.self.invariant.rising c.self.invariant.filed d.live c.requires.order size c.give_freed.new.used d.held old fresh)

use Rattle.std.proofs.Common.{◌≡◌, ◌∙◌, ◌++◌, ℕ, List, [], map, set, true, false, sym, ap, subst, rules}
use Rattle.std.specs.List.{All}
use Rattle.std.specs.List.Sorted.{IsStrictlyIncreasing}
use Rattle.std.proofs.lemmas.Option.{get_or_from_slice_get}
use Rattle.gno_codec.specs.declared.item.ShelfItem.TheVariants as items
use Rattle.shelf_records.specs.Book.{BookView, IsPlaceOf, freed_blocks, places_of}
use Rattle.shelf_records.specs.Filed.{IsFiled}
use Rattle.shelf_records.specs.Shelved.{AreBlocks, IsInSlot, MayFollow, Shelved, after_record, blocks_in_use, committed}
use Rattle.shelf_records.specs.Slots.{AreHeld}
use Rattle.shelf_records.proofs.Following.{at_false, at_true}
use Rattle.shelf_records.proofs.Metrics.{commit_blocks, commit_filed, commit_ids, commit_is, commit_rising, number_of, read_before, read_behind, read_refused, take_nil}
use Rattle.shelf_records.proofs.book.Book.turn.Goals as goal

pub follow_at-requires-clause-held : goal.follow_at-requires-clause-held
follow_at-requires-clause-held c =
    let b = c.self.inside in
    let old = c.self.invariant in
    let item = c.args.item in
    let place = c.args.place in
    let are : b.metrics.items ≡ c.args.self.metrics = ap (λ (v : BookView). v.metrics) c.self.view_is in
    let none : b.taken.items ≡ [] = ap (λ (v : BookView). v.taken) c.self.view_is ∙ c.requires.none in
    let is : IsPlaceOf item.metric b.metrics.items place = subst (λ (ms : List Shelved). IsPlaceOf item.metric ms place) (sym are) c.requires.place in
    let live : MayFollow b.metrics.items (items.Commit item) = subst (λ (ms : List Shelved). MayFollow ms (items.Commit item)) (sym are) c.requires.live in
    let mine : c.index_mut.result.now ≡ is.metric = c.index_mut.ensures.value ∙ get_or_from_slice_get b.metrics.items place is.metric c.index_mut.result.now is.there in
    subst (λ (m : Shelved). (slots : List ℕ) × AreHeld (places_of (freed_blocks m item.changes) ++ slots) b.used) (sym mine)
    (read_before b.metrics.items item place is old.rising old.filed live c.requires.order b.held b.taken.items b.used none old.held)

pub returns-then-not-followed-clause-damaged : goal.returns-then-not-followed-clause-damaged
returns-then-not-followed-clause-damaged c same size after =
    let b = c.self.inside in
    let old = c.self.invariant in
    let item = c.args.item in
    let place = c.args.place in
    let are : b.metrics.items ≡ c.args.self.metrics = ap (λ (v : BookView). v.metrics) c.self.view_is in
    let none : b.taken.items ≡ [] = ap (λ (v : BookView). v.taken) c.self.view_is ∙ c.requires.none in
    let is : IsPlaceOf item.metric b.metrics.items place = subst (λ (ms : List Shelved). IsPlaceOf item.metric ms place) (sym are) c.requires.place in
    let live : MayFollow b.metrics.items (items.Commit item) = subst (λ (ms : List Shelved). MayFollow ms (items.Commit item)) (sym are) c.requires.live in
    let mine : c.index_mut.result.now ≡ is.metric = c.index_mut.ensures.value ∙ get_or_from_slice_get b.metrics.items place is.metric c.index_mut.result.now is.there in
    let no : c.in_ok-followed.followed ≡ false = search rules in
    let refused = at_false c.in_ok-followed.followed no (c.in_ok-followed.ensures {u = tt}).refused in
    read_refused b.metrics.items item place is old.rising old.filed live c.requires.order b.held b.taken.items c.args.blocks.now b.used none c.requires.blocks old.held
    (λ slots held apart. refused slots (subst (λ (m : Shelved). AreHeld (places_of (freed_blocks m item.changes) ++ slots) b.used) (sym mine) held) apart)
    size (subst (λ (ms : List Shelved). AreBlocks size (after_record ms (items.Commit item))) (sym are) after)

-- what stands once all is done
record Turned (c : goal.Else-not-followed) : Type 0 where
  is : IsPlaceOf c.args.item.metric c.self.inside.metrics.items c.args.place
  live : MayFollow c.self.inside.metrics.items (items.Commit c.args.item)
  none : c.self.inside.taken.items ≡ []
  same : set c.self.inside.metrics.items c.args.place c.follow_at.new.filed ≡ set c.self.inside.metrics.items c.args.place (committed c.args.item is.metric)
  held : AreHeld (places_of (blocks_in_use (set c.self.inside.metrics.items c.args.place (committed c.args.item is.metric)))) c.follow_at.new.used

turned : (c : goal.Else-not-followed) → Turned c
turned c =
    let b = c.self.inside in
    let old = c.self.invariant in
    let item = c.args.item in
    let place = c.args.place in
    let are : b.metrics.items ≡ c.args.self.metrics = ap (λ (v : BookView). v.metrics) c.self.view_is in
    let none : b.taken.items ≡ [] = ap (λ (v : BookView). v.taken) c.self.view_is ∙ c.requires.none in
    let is : IsPlaceOf item.metric b.metrics.items place = subst (λ (ms : List Shelved). IsPlaceOf item.metric ms place) (sym are) c.requires.place in
    let live : MayFollow b.metrics.items (items.Commit item) = subst (λ (ms : List Shelved). MayFollow ms (items.Commit item)) (sym are) c.requires.live in
    let mine : c.index_mut.result.now ≡ is.metric = c.index_mut.ensures.value ∙ get_or_from_slice_get b.metrics.items place is.metric c.index_mut.result.now is.there in
    let yes : c.in_ok-followed.followed ≡ true = search rules in
    let follows = at_true c.in_ok-followed.followed yes (c.in_ok-followed.ensures {u = tt}).held in
    record {
      is = is;
      live = live;
      none = none;
      same = ap (set b.metrics.items place) (at_true c.in_ok-followed.followed yes (c.in_ok-followed.ensures {u = tt}).followed ∙ ap (committed item) mine);
      held = read_behind b.metrics.items item place is old.rising old.filed live c.requires.order b.held b.taken.items c.args.blocks.now b.used c.follow_at.new.used none c.requires.blocks old.held
          (λ slots held. follows slots (subst (λ (m : Shelved). AreHeld (places_of (freed_blocks m item.changes) ++ slots) b.used) (sym mine) held));
    }

pub invariant_of-result : goal.invariant_of-result
invariant_of-result c =
    let b = c.self.inside in
    let old = c.self.invariant in
    let item = c.args.item in
    let place = c.args.place in
    let t = turned c in
    record {
      ids = old.ids ∙ sym (commit_ids b.metrics.items item place t.is old.rising old.filed t.live c.requires.order) ∙ ap (map (λ (m : Shelved). m.id)) (sym t.same);
      rising = subst (λ (ms : List Shelved). IsStrictlyIncreasing (map number_of ms)) (sym t.same) (commit_rising b.metrics.items item place t.is old.rising old.filed t.live c.requires.order);
      filed = subst (All IsFiled) (sym t.same) (commit_filed b.metrics.items item place t.is old.rising old.filed t.live c.requires.order);
      within = old.within;
      all = old.all;
      held = subst (λ (l : List ℕ). AreHeld (l ++ places_of (blocks_in_use (set b.metrics.items place c.follow_at.new.filed))) c.follow_at.new.used) (sym (take_nil b.held b.taken.items t.none))
          (subst (λ (ms : List Shelved). AreHeld (places_of (blocks_in_use ms)) c.follow_at.new.used) (sym t.same) t.held);
    }

pub returns-clause-ok : goal.returns-clause-ok
returns-clause-ok c =
    let b = c.self.inside in
    let t = turned c in
    t.same ∙ sym (commit_is b.metrics.items c.args.item c.args.place t.is c.self.invariant.rising c.self.invariant.filed t.live c.requires.order)
    ∙ ap (λ (v : BookView). after_record v.metrics (items.Commit c.args.item)) c.self.view_is

pub returns-clause-blocks : goal.returns-clause-blocks
returns-clause-blocks c size blocks fresh =
    let b = c.self.inside in
    let t = turned c in
    let before : AreBlocks size b.metrics.items = subst (λ (v : BookView). AreBlocks size v.metrics) (sym c.self.view_is) blocks in
    subst (AreBlocks size) (sym t.same)
    (commit_blocks b.metrics.items c.args.item c.args.place t.is c.self.invariant.rising c.self.invariant.filed t.live c.requires.order size c.follow_at.new.used t.held before (subst (All (IsInSlot size)) c.requires.blocks fresh))

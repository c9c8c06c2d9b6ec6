-- The metrics of a book.
use Rattle.std.proofs.Common.{◌≡◌, ◌≢◌, ℕ, zero, suc, ◌+◌, ◌<◌, ◌≤◌, Bool, true, false, not, cond, eqb, ltb, List, [], ◌∷◌, ◌++◌, map, length, take, drop, set, get_or, Option, Some, None, refl, sym, ap, subst, ◌∙◌, append_assoc, append-nil, arith}
use Rattle.std.specs.List.{All, AllPairs, filter, slice_get}
use Rattle.std.specs.Option.{IfNone, IfSome, IsSomeAnd, MatchOption, option_to_list}
use Rattle.std.specs.List.Sorted.{IsNonDecreasingBy, IsPermutation, IsStrictlyIncreasing}
use Rattle.std.proofs.Math.Logic.{⊎_elim}
use Rattle.std.proofs.lemmas.Bool.{cases_eq, cases_lt, eq-eqb, eqb-false, le-ltb, lt-ltb, ltb-true, ne_eqb}
use Rattle.std.proofs.lemmas.Option.{get_or_from_slice_get, none-some, same_Some, slice_get-get_or, slice_get_within}
use Rattle.std.proofs.lemmas.List.{drop-map, drop_all, drop_more, get_or-drop, get_or-map, get_or-take, length-drop, length-map, length-take, map-append, take-append-drop, take-map, take_all}
use Rattle.std.proofs.lemmas.List.Kept.{AllPairs-from_increasing}
use Rattle.std.proofs.lemmas.List.Concat.{flat_map-append}
use Rattle.std.proofs.lemmas.List.Elements.{All-append, All-cons, All-drop, All-head, All-map, All-nil, All-set, All-tail, All-take, All-weaker, filter-append, filter_passes}
use Rattle.std.proofs.lemmas.List.Sorted.{All-permutation, IsPermutation-append_left, IsPermutation-append_right, IsPermutation-map, IsPermutation-sym, IsPermutation-trans}
use Rattle.archive_policy.specs.declared.definition.Definition.{Definition}
use Rattle.archive_policy.specs.declared.kind.Kind.{Kind}
use Rattle.archive_policy.specs.Policies.{ArchivePolicy}
use Rattle.archive_policy.proofs.Lists.{map-map}
use Rattle.archive_policy.proofs.Rising.{Above, Rises, Rises_from_rising, rising_from_Rises}
use Rattle.extent_map.proofs.JoinLemmas.{drop_got}
use Rattle.extent_map.proofs.RangeLemmas.{All-left, All-right, pairs-right, split_got}
use Rattle.extent_map.specs.Extents.{ExtentsView}
use Rattle.series_model.proofs.ByKey.{filter-keep, filter-skip}
use Rattle.series_model.specs.declared.metric.MetricId.{MetricId}
use Rattle.gno_codec.specs.declared.item.Block.{Block}
use Rattle.gno_codec.specs.declared.item.Change.{Change}
use Rattle.gno_codec.specs.declared.item.CommitItem.{CommitItem}
use Rattle.gno_codec.specs.declared.item.ShelfItem.TheVariants as items
use Rattle.gno_codec.specs.Shelf.{ComesBefore}
use Rattle.shelf_records.specs.declared.moves.Move.{Move}
use Rattle.shelf_records.specs.declared.series.Stored.{Stored}
use Rattle.shelf_records.specs.Book.{IsPlaceOf, blocks_of_kept, changed_blocks, freed_blocks, new_blocks, places_of}
use Rattle.shelf_records.specs.Filed.{AreRising, IsFiled, emptied, splits_of, with_splits}
use Rattle.shelf_records.specs.Series.{after_moves, block_of, changed, stored_or_gone}
use Rattle.shelf_records.specs.Shelved.{AreBlocks, FitsMetric, IsInSlot, Kept, MayFollow, Shelved, is_change_of, kept_after, move_of, none_kept, registered, after_record, blocks_in_use, blocks_of_metric, committed, metric_of}
use Rattle.shelf_records.specs.Slots.{AreHeld}
use Rattle.shelf_records.proofs.Freed.{IsMoved, moved_metric, swapped}
use Rattle.shelf_records.proofs.Holding.{apart_permutation, held_permutation}
use Rattle.shelf_records.proofs.Changing.{rises_both}
use Rattle.shelf_records.proofs.Keys.{Rises-remove, all_above, key_of}
use Rattle.shelf_records.proofs.Merging.{between}
use Rattle.shelf_records.proofs.Places.{none_of}

abbrev pub number_of : Shelved → ℕ
number_of m = m.id.0

-- ---- a metric is found by its identifier

pub found_at : (metrics : List Shelved) (id : MetricId) (place : ℕ) → Rises (map number_of metrics) → slice_get (map (λ (m : Shelved). m.id) metrics) place ≡ Some id → metric_of id metrics ≡ slice_get metrics place
found_at [] id place rises there = absurd (none-some id there)
found_at (m ∷ metrics) id zero rises there =
    ap (λ b. cond b (Some m) (metric_of id metrics)) (eq-eqb m.id.0 id.0 (ap (λ (x : MetricId). x.0) (same_Some m.id id there)))
found_at (m ∷ metrics) id (suc place) rises there =
    let later : m.id.0 < id.0 = above_at metrics place rises.0 there in
    ap (λ b. cond b (Some m) (metric_of id metrics)) (ne_eqb m.id.0 id.0 (λ same. absurd (omega (arith, same, later)))) ∙ found_at metrics id place rises.1 there
  where
    above_at : (xs : List Shelved) (place : ℕ) → Above m.id.0 (map number_of xs) → slice_get (map (λ (x : Shelved). x.id) xs) place ≡ Some id → m.id.0 < id.0
    above_at [] place above there = absurd (none-some id there)
    above_at (x ∷ xs) zero above there = subst (λ (i : MetricId). m.id.0 < i.0) (same_Some x.id id there) above.0
    above_at (x ∷ xs) (suc place) above there = above_at xs place above.1 there

pub found_none : (metrics : List Shelved) (id : MetricId) → All (λ (x : MetricId). x.0 ≢ id.0) (map (λ (m : Shelved). m.id) metrics) → metric_of id metrics ≡ None
found_none [] id all = refl
found_none (m ∷ metrics) id all =
    ap (λ b. cond b (Some m) (metric_of id metrics)) (ne_eqb m.id.0 id.0 (All-head (λ (x : MetricId). x.0 ≢ id.0) m.id (map (λ (x : Shelved). x.id) metrics) all))
    ∙ found_none metrics id (All-tail (λ (x : MetricId). x.0 ≢ id.0) m.id (map (λ (x : Shelved). x.id) metrics) all)

-- ---- a commit

no_commit : (c : CommitItem) (metrics : List Shelved) → Above c.metric.0 (map number_of metrics) → map (λ m. cond (eqb m.id.0 c.metric.0) (committed c m) m) metrics ≡ metrics
no_commit c [] above = refl
no_commit c (m ∷ metrics) above =
    ap (λ b. cond b (committed c m) m ∷ map (λ x. cond (eqb x.id.0 c.metric.0) (committed c x) x) metrics) (ne_eqb m.id.0 c.metric.0 (λ same. absurd (omega (arith, same, above.0))))
    ∙ ap (λ l. m ∷ l) (no_commit c metrics above.1)

pub commit_at : (c : CommitItem) (metrics : List Shelved) (place : ℕ) (m : Shelved) → Rises (map number_of metrics) → slice_get metrics place ≡ Some m → m.id.0 ≡ c.metric.0 → after_record metrics (items.Commit c) ≡ set metrics place (committed c m)
commit_at c [] place m rises there same = absurd (none-some m there)
commit_at c (x ∷ metrics) zero m rises there same =
    let is : x ≡ m = same_Some x m there in
    let number : x.id.0 ≡ c.metric.0 = ap number_of is ∙ same in
    ap (λ b. cond b (committed c x) x ∷ map (λ y. cond (eqb y.id.0 c.metric.0) (committed c y) y) metrics) (eq-eqb x.id.0 c.metric.0 number)
    ∙ ap (λ y. committed c x ∷ y) (no_commit c metrics (subst (λ (n : ℕ). Above n (map number_of metrics)) number rises.0))
    ∙ ap (λ y. committed c y ∷ metrics) is
commit_at c (x ∷ metrics) (suc place) m rises there same =
    let later : x.id.0 < c.metric.0 = above_at metrics place rises.0 there in
    ap (λ b. cond b (committed c x) x ∷ map (λ y. cond (eqb y.id.0 c.metric.0) (committed c y) y) metrics) (ne_eqb x.id.0 c.metric.0 (λ e. absurd (omega (arith, e, later))))
    ∙ ap (λ l. x ∷ l) (commit_at c metrics place m rises.1 there same)
  where
    above_at : (xs : List Shelved) (place : ℕ) → Above x.id.0 (map number_of xs) → slice_get xs place ≡ Some m → x.id.0 < c.metric.0
    above_at [] place above there = absurd (none-some m there)
    above_at (y ∷ xs) zero above there = let is = same_Some y m there in omega (arith, above.0, ap number_of is, same)
    above_at (y ∷ xs) (suc place) above there = above_at xs place above.1 there

-- the blocks of all metrics move with those of one
pub moved_at : (metrics : List Shelved) (place : ℕ) (m then : Shelved) (freed new : List Block) → slice_get metrics place ≡ Some m → IsMoved (blocks_of_metric m) freed (blocks_of_metric then) new → IsMoved (blocks_in_use metrics) freed (blocks_in_use (set metrics place then)) new
moved_at [] place m then freed new there moved = absurd (none-some m there)
moved_at (x ∷ metrics) zero m then freed new there moved =
    let rest = blocks_in_use metrics in
    let is : blocks_of_metric x ≡ blocks_of_metric m = ap blocks_of_metric (same_Some x m there) in
    record {
      stays = moved.stays ++ rest;
      old = subst (λ (l : List Block). IsPermutation (l ++ rest) (freed ++ (moved.stays ++ rest))) (sym is) (subst (IsPermutation (blocks_of_metric m ++ rest)) (append_assoc freed moved.stays rest) (IsPermutation-append_left rest (blocks_of_metric m) (freed ++ moved.stays) moved.old));
      then = subst (IsPermutation (blocks_of_metric then ++ rest)) (append_assoc new moved.stays rest) (IsPermutation-append_left rest (blocks_of_metric then) (new ++ moved.stays) moved.then);
    }
moved_at (x ∷ metrics) (suc place) m then freed new there moved =
    let own = blocks_of_metric x in
    let rest = moved_at metrics place m then freed new there moved in
    record {
      stays = own ++ rest.stays;
      old = IsPermutation-trans (own ++ blocks_in_use metrics) (own ++ (freed ++ rest.stays)) (freed ++ (own ++ rest.stays)) (IsPermutation-append_right own (blocks_in_use metrics) (freed ++ rest.stays) rest.old) (swapped own freed rest.stays);
      then = IsPermutation-trans (own ++ blocks_in_use (set metrics place then)) (own ++ (new ++ rest.stays)) (new ++ (own ++ rest.stays)) (IsPermutation-append_right own (blocks_in_use (set metrics place then)) (new ++ rest.stays) rest.then) (swapped own new rest.stays);
    }

-- new blocks beside those of before are freed ones beside those behind
pub settled : (before freed behind new : List Block) → IsMoved before freed behind new → IsPermutation (new ++ before) (freed ++ behind)
settled before freed behind new moved =
    IsPermutation-trans (new ++ before) (new ++ (freed ++ moved.stays)) (freed ++ behind)
    (IsPermutation-append_right new before (freed ++ moved.stays) moved.old)
    (IsPermutation-trans (new ++ (freed ++ moved.stays)) (freed ++ (new ++ moved.stays)) (freed ++ behind)
    (swapped new freed moved.stays)
    (IsPermutation-append_right freed (new ++ moved.stays) behind (IsPermutation-sym behind (new ++ moved.stays) moved.then)))

places-append : (xs ys : List Block) → places_of (xs ++ ys) ≡ places_of xs ++ places_of ys
places-append xs ys = map-append (λ (b : Block). b.at) xs ys

pub settled_held : (before freed behind new : List Block) (used : ExtentsView) → IsMoved before freed behind new → AreHeld (places_of new ++ places_of before) used → AreHeld (places_of freed ++ places_of behind) used
settled_held before freed behind new used moved held =
    subst (λ (l : List ℕ). AreHeld l used) (places-append freed behind)
    (held_permutation (places_of (new ++ before)) (places_of (freed ++ behind)) used (IsPermutation-map (λ (b : Block). b.at) (new ++ before) (freed ++ behind) (settled before freed behind new moved)) (subst (λ (l : List ℕ). AreHeld l used) (sym (places-append new before)) held))

-- ---- the blocks of a book

pub blocks_apart : (blocks : List Block) (used : ExtentsView) → AreHeld (places_of blocks) used → AllPairs (λ (b c : Block). b.at ≢ c.at) blocks
blocks_apart blocks used held i j d lt below same =
    let long : length (places_of blocks) ≡ length blocks = length-map blocks (λ (b : Block). b.at) in
    held.apart i j d.at lt (omega (arith, below, long)) (get_or-map (λ (b : Block). b.at) blocks i d d.at (omega (arith, lt, below)) ∙ same ∙ sym (get_or-map (λ (b : Block). b.at) blocks j d d.at below))

pub settled_blocks : (size : ℕ) (before freed behind new : List Block) → IsMoved before freed behind new → All (IsInSlot size) before → All (IsInSlot size) new → All (IsInSlot size) behind
settled_blocks size before freed behind new moved old fresh =
    All-right (IsInSlot size) freed behind (All-permutation (IsInSlot size) (new ++ before) (freed ++ behind) (settled before freed behind new moved) (All-append (IsInSlot size) new before fresh old))

-- ---- identifiers that rise

pub later_id : (ids : List MetricId) → IsStrictlyIncreasing (map (λ (x : MetricId). x.0) ids) → (i j : ℕ) (d : MetricId) → i < j → j < length ids → (get_or ids i d).0 < (get_or ids j d).0
later_id ids rising i j d lt below =
    let long : length (map (λ (x : MetricId). x.0) ids) ≡ length ids = length-map ids (λ (x : MetricId). x.0) in
    let is = AllPairs-from_increasing (map (λ (x : MetricId). x.0) ids) rising i j d.0 lt (omega (arith, below, long)) in
    omega (arith, is, get_or-map (λ (x : MetricId). x.0) ids i d d.0 (omega (arith, lt, below)), get_or-map (λ (x : MetricId). x.0) ids j d d.0 below)

pub ids_never_fall : (ids : List MetricId) → IsStrictlyIncreasing (map (λ (x : MetricId). x.0) ids) → IsNonDecreasingBy (λ (x : MetricId). x.0) ids
ids_never_fall ids rising i j d le below =
    ⊎_elim
    (λ same. omega (arith, ap (λ k. (get_or ids k d).0) same))
    (λ apart. omega (arith, later_id ids rising i j d (omega (arith, le, apart)) below))
    (cases_eq i j)

pub no_id : (ids : List MetricId) (id : MetricId) (p : ℕ) → IsStrictlyIncreasing (map (λ (x : MetricId). x.0) ids) → All (λ (x : MetricId). x.0 < id.0) (take p ids) → All (λ (x : MetricId). id.0 ≤ x.0) (drop p ids) → (slice_get ids p ≡ Some id → ⊥) → All (λ (x : MetricId). x.0 ≢ id.0) ids
no_id ids id p rising before behind absent k d below same =
    ⊎_elim
    (λ early.
    let x = before k d (omega (arith, early, below, length-take p ids)) in
    omega (arith, x, same, ap (λ (y : MetricId). y.0) (get_or-take p ids k d early)))
    (λ late. ⊎_elim
    (λ here.
    let there : slice_get ids k ≡ Some (get_or ids k d) = slice_get-get_or ids k d below in
    let is : get_or ids k d ≡ id = ap (λ (n : ℕ). record { 0 = n }) same in
    absent (ap (slice_get ids) (sym here) ∙ there ∙ ap Some is))
    (λ apart.
    let first = behind 0 d (omega (arith, late, apart, below, length-drop p ids)) in
    let none : p + 0 ≡ p = omega arith in
    let at : get_or (drop p ids) 0 d ≡ get_or ids p d = get_or-drop p ids 0 d ∙ ap (λ i. get_or ids i d) none in
    omega (arith, same, first, ap (λ (y : MetricId). y.0) at, later_id ids rising p k d (omega (arith, late, apart)) below))
    (cases_eq k p))
    (cases_lt k p)

-- ---- a book's slots

pub held_again : (slots : List ℕ) (old new : ExtentsView) → new.end ≡ old.end → new.free ≡ old.free → AreHeld slots old → AreHeld slots new
held_again slots old new end free held =
    subst (λ (e : ℕ). AreHeld slots (record { end = e; free = new.free; spare = new.spare })) (sym end)
    (subst (λ (f : List (ℕ × ℕ)). AreHeld slots (record { end = old.end; free = f; spare = new.spare })) (sym free)
    (record { form = held.form; used = held.used; aligned = held.aligned; apart = held.apart; end = held.end; limit = held.limit }))

pub all_held : (n : ℕ) (taken rest : List ℕ) (used : ExtentsView) → n ≡ length taken → AreHeld (take n taken ++ rest) used → AreHeld (taken ++ rest) used
all_held n taken rest used is held = subst (λ (l : List ℕ). AreHeld (l ++ rest) used) (take_all n taken (omega (arith, is))) held

pub ids_rise : (ids : List MetricId) (metrics : List Shelved) → ids ≡ map (λ (m : Shelved). m.id) metrics → IsStrictlyIncreasing (map number_of metrics) → IsStrictlyIncreasing (map (λ (x : MetricId). x.0) ids)
ids_rise ids metrics are rising =
    subst IsStrictlyIncreasing (sym (ap (map (λ (x : MetricId). x.0)) are ∙ map-map (λ (x : MetricId). x.0) (λ (m : Shelved). m.id) metrics)) rising

pub found_option : (ids : List MetricId) (metrics : List Shelved) (id : MetricId) → ids ≡ map (λ (m : Shelved). m.id) metrics → IsStrictlyIncreasing (map number_of metrics) → (o : Option ℕ) → IfSome o (λ place. slice_get ids place ≡ Some id) → IfNone o (All (λ (x : MetricId). x.0 ≢ id.0) ids) → MatchOption o (metric_of id metrics ≡ None) (λ place. IsPlaceOf id metrics place)
found_option ids metrics id are rising None some none = found_none metrics id (subst (All (λ (x : MetricId). x.0 ≢ id.0)) are none)
found_option ids metrics id are rising (Some place) some none =
    let there : slice_get (map (λ (m : Shelved). m.id) metrics) place ≡ Some id = subst (λ (l : List MetricId). slice_get l place ≡ Some id) are some in
    let m = metric_there metrics place there in
    record {
      metric = m.0;
      there = m.1;
      found = found_at metrics id place (Rises_from_rising (map number_of metrics) rising) there ∙ m.1;
      same = m.2;
    }
  where
    metric_there : (ms : List Shelved) (place : ℕ) → slice_get (map (λ (m : Shelved). m.id) ms) place ≡ Some id → (m : Shelved) × (slice_get ms place ≡ Some m) × (m.id ≡ id)
    metric_there [] place there = absurd (none-some id there)
    metric_there (m ∷ ms) zero there = (m, refl, same_Some m.id id there)
    metric_there (m ∷ ms) (suc place) there = metric_there ms place there

-- ---- what is given back

pub next_change : (m : Shelved) (changes : List Change) (i : ℕ) (c : Change) (slots : List ℕ) (used : ExtentsView) → i < length changes → c ≡ get_or changes i c → AreHeld (places_of (changed_blocks m (drop i changes)) ++ slots) used
    → AreHeld (places_of (option_to_list (block_of c.key (splits_of c.definition c.kind m.kept))) ++ (places_of (changed_blocks m (drop (i + 1) changes)) ++ slots)) used
next_change m changes i c slots used below is held =
    let own = option_to_list (block_of c.key (splits_of c.definition c.kind m.kept)) in
    let rest = changed_blocks m (drop (i + 1) changes) in
    let here : drop i changes ≡ c ∷ drop (i + 1) changes = drop_more changes i c below ∙ ap (λ x. x ∷ drop (i + 1) changes) (sym is) in
    let same : places_of (changed_blocks m (drop i changes)) ++ slots ≡ places_of own ++ (places_of rest ++ slots) =
    ap (λ (cs : List Change). places_of (changed_blocks m cs) ++ slots) here ∙ ap (λ l. l ++ slots) (places-append own rest) ∙ append_assoc (places_of own) (places_of rest) slots in
    subst (λ (l : List ℕ). AreHeld l used) same held

pub freed_parts : (m : Shelved) (changes : List Change) (slots : List ℕ) (used : ExtentsView) → AreHeld (places_of (freed_blocks m changes) ++ slots) used → AreHeld (places_of m.chunks ++ (places_of (changed_blocks m changes) ++ slots)) used
freed_parts m changes slots used held =
    subst (λ (l : List ℕ). AreHeld l used) (ap (λ l. l ++ slots) (places-append m.chunks (changed_blocks m changes)) ∙ append_assoc (places_of m.chunks) (places_of (changed_blocks m changes)) slots) held

pub all_changed : (m : Shelved) (changes : List Change) (i : ℕ) (slots : List ℕ) (used : ExtentsView) → length changes ≤ i → AreHeld (places_of (changed_blocks m (drop i changes)) ++ slots) used → AreHeld slots used
all_changed m changes i slots used end held = subst (λ (cs : List Change). AreHeld (places_of (changed_blocks m cs) ++ slots) used) (drop_all i changes end) held

-- ---- a filed metric after a commit

rises_filter : (p : Stored → Bool) (s : List Stored) → Rises (map key_of s) → Rises (map key_of (filter p s))
rises_filter p [] rises = tt
rises_filter p (x ∷ s) rises = by (p x) refl (rises_filter p s rises.1)
  where
    low : (xs : List Stored) → Above x.key (map key_of xs) → Above x.key (map key_of (filter p xs))
    low [] above = tt
    low (y ∷ xs) above = one (p y) refl (low xs above.1)
      where
        one : (b : Bool) → p y ≡ b → Above x.key (map key_of (filter p xs)) → Above x.key (map key_of (filter p (y ∷ xs)))
        one true is rest = subst (λ (l : List Stored). Above x.key (map key_of l)) (sym (filter-keep p y xs is)) (above.0, rest)
        one false is rest = subst (λ (l : List Stored). Above x.key (map key_of l)) (sym (filter-skip p y xs is)) rest

    by : (b : Bool) → p x ≡ b → Rises (map key_of (filter p s)) → Rises (map key_of (filter p (x ∷ s)))
    by true is rest = subst (λ (l : List Stored). Rises (map key_of l)) (sym (filter-keep p x s is)) (low s rises.0, rest)
    by false is rest = subst (λ (l : List Stored). Rises (map key_of l)) (sym (filter-skip p x s is)) rest

keys_below : (k : ℕ) (s : List Stored) → All (λ x. x < k) (map key_of (filter (λ s. ltb s.key k) s))
keys_below k s = All-map (λ x. x < k) key_of (filter (λ x. ltb x.key k) s) (λ i d lt. ltb-true (get_or (filter (λ x. ltb x.key k) s) i d).key k (filter_passes (λ x. ltb x.key k) s i d lt))

keys_above : (k : ℕ) (s : List Stored) → All (λ x. k < x) (map key_of (filter (λ s. ltb k s.key) s))
keys_above k s = All-map (λ x. k < x) key_of (filter (λ x. ltb k x.key) s) (λ i d lt. ltb-true k (get_or (filter (λ x. ltb k x.key) s) i d).key (filter_passes (λ x. ltb k x.key) s i d lt))

rises_changed : (k : ℕ) (b : Option Block) (s : List Stored) → Rises (map key_of s) → Rises (map key_of (changed k b s))
rises_changed k b s rises =
    let low = filter (λ (x : Stored). ltb x.key k) s in
    let high = filter (λ (x : Stored). ltb k x.key) s in
    let apart : Rises (map key_of low ++ map key_of high) =
    rises_both k (map key_of low) (map key_of high) (rises_filter (λ x. ltb x.key k) s rises) (keys_below k s) (rises_filter (λ x. ltb k x.key) s rises) (All-weaker (λ x. k < x) (λ x. k ≤ x) (λ x lt. omega (arith, lt)) (map key_of high) (keys_above k s)) in
    by b low high (keys_below k s) (keys_above k s) apart
  where
    by : (b : Option Block) (low high : List Stored) → All (λ x. x < k) (map key_of low) → All (λ x. k < x) (map key_of high) → Rises (map key_of low ++ map key_of high) → Rises (map key_of (low ++ (stored_or_gone k b ++ high)))
    by None low high before behind apart = subst Rises (sym (map-append key_of low high)) apart
    by (Some x) low high before behind apart =
        let more = between (map key_of low) k (map key_of high) apart before (all_above k (map key_of high) behind) in
        subst Rises (sym (map-append key_of low ((record { key = k; block = x }) ∷ high))) (subst Rises (append_assoc (map key_of low) (k ∷ []) (map key_of high)) more)

pub rises_after : (moves : List Move) (s : List Stored) → AreRising s → AreRising (after_moves moves s)
rises_after [] s rising = rising
rises_after (m ∷ moves) s rising =
    rises_after moves (changed m.key m.block s) (rising_from_Rises (map key_of (changed m.key m.block s)) (rises_changed m.key m.block s (Rises_from_rising (map key_of s) rising)))

pub rising_kept : (changes : List Change) (kept : List Kept) → All (λ (k : Kept). AreRising k.splits) kept → All AreRising (map (λ (k : Kept). k.splits) (map (kept_after changes) kept))
rising_kept changes [] all = All-nil AreRising
rising_kept changes (k ∷ kept) all =
    All-cons AreRising (kept_after changes k).splits (map (λ (x : Kept). x.splits) (map (kept_after changes) kept)) (rises_after (map move_of (filter (is_change_of k) changes)) k.splits (All-head (λ (x : Kept). AreRising x.splits) k kept all))
    (rising_kept changes kept (All-tail (λ (x : Kept). AreRising x.splits) k kept all))

pub emptied_after : (changes : List Change) (kept : List Kept) → map emptied (map (kept_after changes) kept) ≡ map emptied kept
emptied_after changes [] = refl
emptied_after changes (k ∷ kept) = ap (λ l. emptied k ∷ l) (emptied_after changes kept)

pub with_again : (layout kept : List Kept) → map emptied kept ≡ map emptied layout → with_splits layout (map (λ (k : Kept). k.splits) kept) ≡ kept
with_again [] [] same = refl
with_again [] (k ∷ kept) same = absurd (omega (arith, ap length same))
with_again (l ∷ layout) [] same = absurd (omega (arith, ap length same))
with_again (l ∷ layout) (k ∷ kept) same =
    let first : emptied k ≡ emptied l = cc in
    let rest : map emptied kept ≡ map emptied layout = cc in
    ap (λ (e : Kept). record e { splits = k.splits } ∷ with_splits layout (map (λ (x : Kept). x.splits) kept)) (sym first) ∙ ap (λ ks. k ∷ ks) (with_again layout kept rest)

pub filed_committed : (c : CommitItem) (m : Shelved) → IsFiled m → IsFiled (committed c m)
filed_committed c m filed =
    record {
      definitions = filed.definitions;
      kinds = filed.kinds;
      layout = emptied_after c.changes m.kept ∙ filed.layout;
      rising = λ i d lt. rising_of (map (kept_after c.changes) m.kept) (rising_kept c.changes m.kept filed.rising) i d lt;
    }
  where
    rising_of : (kept : List Kept) → All AreRising (map (λ (k : Kept). k.splits) kept) → All (λ (k : Kept). AreRising k.splits) kept
    rising_of [] all = All-nil (λ (k : Kept). AreRising k.splits)
    rising_of (k ∷ kept) all = All-cons (λ (x : Kept). AreRising x.splits) k kept (All-head AreRising k.splits (map (λ (x : Kept). x.splits) kept) all) (rising_of kept (All-tail AreRising k.splits (map (λ (x : Kept). x.splits) kept) all))

-- ---- a commit that is settled

map_set : {X Y : Type 0} (f : X → Y) (xs : List X) (place : ℕ) (x y : X) → slice_get xs place ≡ Some x → f y ≡ f x → map f (set xs place y) ≡ map f xs
map_set f [] place x y there same = refl
map_set f (z ∷ xs) zero x y there same = ap (λ w. w ∷ map f xs) (same ∙ ap f (sym (same_Some z x there)))
map_set f (z ∷ xs) (suc place) x y there same = ap (λ l. f z ∷ l) (map_set f xs place x y there same)

pub at_place : {X : Type 0} (P : X → Type 0) (xs : List X) (place : ℕ) (x : X) → slice_get xs place ≡ Some x → All P xs → P x
at_place P xs place x there all =
    subst P (get_or_from_slice_get xs place x x there) (all place x (slice_get_within xs place x there))

module _ (metrics : List Shelved) (c : CommitItem) (place : ℕ) (is : IsPlaceOf c.metric metrics place) (rising : IsStrictlyIncreasing (map number_of metrics)) (filed : All IsFiled metrics) (live : MayFollow metrics (items.Commit c)) (order : AllPairs ComesBefore c.changes) where
  own_fits : FitsMetric c is.metric
  own_fits = subst (FitsMetric c) (same_Some live.0 is.metric (sym live.1 ∙ is.found)) live.2

  pub commit_moves : IsMoved (blocks_in_use metrics) (freed_blocks is.metric c.changes) (blocks_in_use (set metrics place (committed c is.metric))) (new_blocks c)
  commit_moves =
      moved_at metrics place is.metric (committed c is.metric) (freed_blocks is.metric c.changes) (new_blocks c) is.there
      (moved_metric is.metric c (at_place IsFiled metrics place is.metric is.there filed) order own_fits.changes)

  pub commit_is : after_record metrics (items.Commit c) ≡ set metrics place (committed c is.metric)
  commit_is = commit_at c metrics place is.metric (Rises_from_rising (map number_of metrics) rising) is.there (ap (λ (x : MetricId). x.0) is.same)

  pub commit_ids : map (λ (m : Shelved). m.id) (set metrics place (committed c is.metric)) ≡ map (λ (m : Shelved). m.id) metrics
  commit_ids = map_set (λ (m : Shelved). m.id) metrics place is.metric (committed c is.metric) is.there refl

  pub commit_rising : IsStrictlyIncreasing (map number_of (set metrics place (committed c is.metric)))
  commit_rising = subst IsStrictlyIncreasing (sym (map_set number_of metrics place is.metric (committed c is.metric) is.there refl)) rising

  pub commit_filed : All IsFiled (set metrics place (committed c is.metric))
  commit_filed = All-set IsFiled metrics place (committed c is.metric) (filed_committed c is.metric (at_place IsFiled metrics place is.metric is.there filed)) filed

  pub commit_held : (n : ℕ) (taken : List ℕ) (used : ExtentsView) → places_of (new_blocks c) ≡ taken → n ≡ length taken → AreHeld (take n taken ++ places_of (blocks_in_use metrics)) used → AreHeld (places_of (freed_blocks is.metric c.changes) ++ places_of (blocks_in_use (set metrics place (committed c is.metric)))) used
  commit_held n taken used are all held =
      settled_held (blocks_in_use metrics) (freed_blocks is.metric c.changes) (blocks_in_use (set metrics place (committed c is.metric))) (new_blocks c) used commit_moves
      (subst (λ (l : List ℕ). AreHeld (l ++ places_of (blocks_in_use metrics)) used) (sym are) (all_held n taken (places_of (blocks_in_use metrics)) used all held))

  pub commit_blocks : (size : ℕ) (used : ExtentsView) → AreHeld (places_of (blocks_in_use (set metrics place (committed c is.metric)))) used → AreBlocks size metrics → All (IsInSlot size) (new_blocks c) → AreBlocks size (set metrics place (committed c is.metric))
  commit_blocks size used held old fresh =
      record {
        each = settled_blocks size (blocks_in_use metrics) (freed_blocks is.metric c.changes) (blocks_in_use (set metrics place (committed c is.metric))) (new_blocks c) commit_moves old.each fresh;
        apart = blocks_apart (blocks_in_use (set metrics place (committed c is.metric))) used held;
      }

-- ---- a metric that is registered

none_has : (id : MetricId) (metrics : List Shelved) → metric_of id metrics ≡ None → All (λ (m : Shelved). m.id.0 ≢ id.0) metrics
none_has id [] none = All-nil (λ (m : Shelved). m.id.0 ≢ id.0)
none_has id (m ∷ metrics) none = by (eqb m.id.0 id.0) refl (none_has id metrics) none
  where
    by : (b : Bool) → eqb m.id.0 id.0 ≡ b → (metric_of id metrics ≡ None → All (λ (x : Shelved). x.id.0 ≢ id.0) metrics) → cond (eqb m.id.0 id.0) (Some m) (metric_of id metrics) ≡ None → All (λ (x : Shelved). x.id.0 ≢ id.0) (m ∷ metrics)
    by true is rest none = absurd (none-some m (sym none ∙ ap (λ b. cond b (Some m) (metric_of id metrics)) is))
    by false is rest none = All-cons (λ (x : Shelved). x.id.0 ≢ id.0) m metrics (eqb-false m.id.0 id.0 is) (rest (sym (ap (λ b. cond b (Some m) (metric_of id metrics)) is) ∙ none))

all_of_map : {X Y : Type 0} (P : Y → Type 0) (f : X → Y) (xs : List X) → All P (map f xs) → All (λ x. P (f x)) xs
all_of_map P f [] all = All-nil (λ x. P (f x))
all_of_map P f (x ∷ xs) all = All-cons (λ y. P (f y)) x xs (All-head P (f x) (map f xs) all) (all_of_map P f xs (All-tail P (f x) (map f xs) all))

lower : (n : ℕ) (xs : List Shelved) → All (λ (m : Shelved). m.id.0 < n) xs → (filter (λ m. ltb m.id.0 n) xs ≡ xs) × (filter (λ m. ltb n m.id.0) xs ≡ [])
lower n [] all = (refl, refl)
lower n (m ∷ xs) all =
    let is = All-head (λ (x : Shelved). x.id.0 < n) m xs all in
    let rest = lower n xs (All-tail (λ (x : Shelved). x.id.0 < n) m xs all) in (
      filter-keep (λ x. ltb x.id.0 n) m xs (lt-ltb m.id.0 n is) ∙ ap (λ l. m ∷ l) rest.0,
      filter-skip (λ x. ltb n x.id.0) m xs (le-ltb n m.id.0 (omega (arith, is))) ∙ rest.1,
    )

upper : (n : ℕ) (xs : List Shelved) → All (λ (m : Shelved). n < m.id.0) xs → (filter (λ m. ltb m.id.0 n) xs ≡ []) × (filter (λ m. ltb n m.id.0) xs ≡ xs)
upper n [] all = (refl, refl)
upper n (m ∷ xs) all =
    let is = All-head (λ (x : Shelved). n < x.id.0) m xs all in
    let rest = upper n xs (All-tail (λ (x : Shelved). n < x.id.0) m xs all) in (
      filter-skip (λ x. ltb x.id.0 n) m xs (le-ltb m.id.0 n (omega (arith, is))) ∙ rest.0,
      filter-keep (λ x. ltb n x.id.0) m xs (lt-ltb n m.id.0 is) ∙ ap (λ l. m ∷ l) rest.1,
    )

no_blocks_of : (kinds : List Kind) (place : ℕ) (ds : List Definition) → blocks_of_kept (none_kept kinds place ds) ≡ []
no_blocks_of kinds place [] = refl
no_blocks_of kinds place (d ∷ ds) =
    flat_map-append (λ (k : Kept). map (λ (s : Stored). s.block) k.splits) (map (none_of place) kinds) (none_kept kinds (place + 1) ds)
    ∙ ap (λ l. l ++ blocks_of_kept (none_kept kinds (place + 1) ds)) (one kinds)
    ∙ no_blocks_of kinds (place + 1) ds
  where
    one : (ks : List Kind) → blocks_of_kept (map (none_of place) ks) ≡ []
    one [] = refl
    one (k ∷ ks) = one ks

module _ (metrics : List Shelved) (ids : List MetricId) (id : MetricId) (done : ℕ) (policy : ArchivePolicy) (p : ℕ) (are : ids ≡ map (λ (m : Shelved). m.id) metrics) (rising : IsStrictlyIncreasing (map number_of metrics)) (before : All (λ (x : MetricId). x.0 < id.0) (take p ids)) (behind : All (λ (x : MetricId). id.0 ≤ x.0) (drop p ids)) (absent : metric_of id metrics ≡ None) where
  low_metrics : All (λ (m : Shelved). m.id.0 < id.0) (take p metrics)
  low_metrics = all_of_map (λ (x : MetricId). x.0 < id.0) (λ (m : Shelved). m.id) (take p metrics) (subst (All (λ (x : MetricId). x.0 < id.0)) (ap (take p) are ∙ take-map (λ (m : Shelved). m.id) p metrics) before)

  high_metrics : All (λ (m : Shelved). id.0 < m.id.0) (drop p metrics)
  high_metrics i d lt =
      let least = all_of_map (λ (x : MetricId). id.0 ≤ x.0) (λ (m : Shelved). m.id) (drop p metrics) (subst (All (λ (x : MetricId). id.0 ≤ x.0)) (ap (drop p) are ∙ drop-map (λ (m : Shelved). m.id) p metrics) behind) i d lt in
      let apart = All-drop (λ (m : Shelved). m.id.0 ≢ id.0) p metrics (none_has id metrics absent) i d lt in
      omega (arith, least, apart)

  pub register_at : after_record metrics (items.Register id done policy) ≡ take p metrics ++ registered id done policy ∷ drop p metrics
  register_at =
      let low = lower id.0 (take p metrics) low_metrics in
      let high = upper id.0 (drop p metrics) high_metrics in
      ap (λ l. l ++ registered id done policy ∷ filter (λ (m : Shelved). ltb id.0 m.id.0) metrics) (ap (filter (λ (m : Shelved). ltb m.id.0 id.0)) (sym (take-append-drop p metrics)) ∙ filter-append (λ (m : Shelved). ltb m.id.0 id.0) (take p metrics) (drop p metrics) ∙ ap (λ l. l ++ filter (λ (m : Shelved). ltb m.id.0 id.0) (drop p metrics)) low.0 ∙ ap (λ l. take p metrics ++ l) high.0 ∙ append-nil (take p metrics))
      ∙ ap (λ l. take p metrics ++ registered id done policy ∷ l) (ap (filter (λ (m : Shelved). ltb id.0 m.id.0)) (sym (take-append-drop p metrics)) ∙ filter-append (λ (m : Shelved). ltb id.0 m.id.0) (take p metrics) (drop p metrics) ∙ ap (λ l. l ++ filter (λ (m : Shelved). ltb id.0 m.id.0) (drop p metrics)) low.1 ∙ high.1)

  pub register_ids : take p ids ++ id ∷ drop p ids ≡ map (λ (m : Shelved). m.id) (take p metrics ++ registered id done policy ∷ drop p metrics)
  register_ids =
      ap (λ (l : List MetricId). take p l ++ id ∷ drop p l) are
      ∙ ap (λ l. l ++ id ∷ drop p (map (λ (m : Shelved). m.id) metrics)) (take-map (λ (m : Shelved). m.id) p metrics)
      ∙ ap (λ l. map (λ (m : Shelved). m.id) (take p metrics) ++ id ∷ l) (drop-map (λ (m : Shelved). m.id) p metrics)
      ∙ sym (map-append (λ (m : Shelved). m.id) (take p metrics) (registered id done policy ∷ drop p metrics))

  pub register_rising : IsStrictlyIncreasing (map number_of (take p metrics ++ registered id done policy ∷ drop p metrics))
  register_rising =
      let xs = map number_of (take p metrics) in
      let ys = map number_of (drop p metrics) in
      let whole : Rises (xs ++ ys) = subst Rises (ap (map number_of) (sym (take-append-drop p metrics)) ∙ map-append number_of (take p metrics) (drop p metrics)) (Rises_from_rising (map number_of metrics) rising) in
      let more : Rises ((xs ++ id.0 ∷ []) ++ ys) = between xs id.0 ys whole (All-map (λ x. x < id.0) number_of (take p metrics) low_metrics) (all_above id.0 ys (All-map (λ x. id.0 < x) number_of (drop p metrics) high_metrics)) in
      rising_from_Rises (map number_of (take p metrics ++ registered id done policy ∷ drop p metrics)) (subst Rises (append_assoc xs (id.0 ∷ []) ys ∙ sym (map-append number_of (take p metrics) (registered id done policy ∷ drop p metrics))) more)

  pub register_blocks : blocks_in_use (take p metrics ++ registered id done policy ∷ drop p metrics) ≡ blocks_in_use metrics
  register_blocks =
      flat_map-append blocks_of_metric (take p metrics) (registered id done policy ∷ drop p metrics)
      ∙ ap (λ l. blocks_in_use (take p metrics) ++ (l ++ blocks_in_use (drop p metrics))) (no_blocks_of policy.kinds 0 policy.definitions)
      ∙ sym (flat_map-append blocks_of_metric (take p metrics) (drop p metrics))
      ∙ ap blocks_in_use (take-append-drop p metrics)

pub filed_more : (metrics : List Shelved) (p : ℕ) (m : Shelved) → All IsFiled metrics → IsFiled m → All IsFiled (take p metrics ++ m ∷ drop p metrics)
filed_more metrics p m all own =
    All-append IsFiled (take p metrics) (m ∷ drop p metrics) (All-take IsFiled p metrics all) (All-cons IsFiled m (drop p metrics) own (All-drop IsFiled p metrics all))

-- ---- a metric that is dropped

pub drop_at : (id : MetricId) (metrics : List Shelved) (place : ℕ) (m : Shelved) → Rises (map number_of metrics) → slice_get metrics place ≡ Some m → m.id ≡ id → after_record metrics (items.Drop id) ≡ take place metrics ++ drop (place + 1) metrics
drop_at id [] place m rises there same = absurd (none-some m there)
drop_at id (x ∷ metrics) zero m rises there same =
    let number : x.id.0 ≡ id.0 = ap number_of (same_Some x m there) ∙ ap (λ (i : MetricId). i.0) same in
    filter-skip (λ (y : Shelved). not (eqb y.id.0 id.0)) x metrics (ap not (eq-eqb x.id.0 id.0 number)) ∙ others metrics (subst (λ (n : ℕ). Above n (map number_of metrics)) number rises.0)
  where
    others : (ms : List Shelved) → Above id.0 (map number_of ms) → filter (λ (y : Shelved). not (eqb y.id.0 id.0)) ms ≡ ms
    others [] above = refl
    others (y ∷ ms) above = filter-keep (λ (z : Shelved). not (eqb z.id.0 id.0)) y ms (ap not (ne_eqb y.id.0 id.0 (λ e. absurd (omega (arith, e, above.0))))) ∙ ap (λ l. y ∷ l) (others ms above.1)
drop_at id (x ∷ metrics) (suc place) m rises there same =
    let later : x.id.0 < id.0 = above_at metrics place rises.0 there in
    let next : suc place + 1 ≡ suc (place + 1) = omega arith in
    filter-keep (λ (y : Shelved). not (eqb y.id.0 id.0)) x metrics (ap not (ne_eqb x.id.0 id.0 (λ e. absurd (omega (arith, e, later)))))
    ∙ ap (λ l. x ∷ l) (drop_at id metrics place m rises.1 there same)
    ∙ ap (λ n. (x ∷ take place metrics) ++ drop n (x ∷ metrics)) (sym next)
  where
    above_at : (xs : List Shelved) (place : ℕ) → Above x.id.0 (map number_of xs) → slice_get xs place ≡ Some m → x.id.0 < id.0
    above_at [] place above there = absurd (none-some m there)
    above_at (y ∷ xs) zero above there = omega (arith, above.0, ap number_of (same_Some y m there), ap (λ (i : MetricId). i.0) same)
    above_at (y ∷ xs) (suc place) above there = above_at xs place above.1 there

pub drop_blocks : (metrics : List Shelved) (place : ℕ) (m : Shelved) → slice_get metrics place ≡ Some m → IsPermutation (blocks_in_use metrics) (blocks_of_metric m ++ blocks_in_use (take place metrics ++ drop (place + 1) metrics))
drop_blocks metrics place m there =
    let own = blocks_of_metric m in
    let front = blocks_in_use (take place metrics) in
    let rest = blocks_in_use (drop (place + 1) metrics) in
    let whole : blocks_in_use metrics ≡ front ++ (own ++ rest) = ap blocks_in_use (split_got metrics place m there) ∙ flat_map-append blocks_of_metric (take place metrics) (m ∷ drop (place + 1) metrics) in
    let after : blocks_in_use (take place metrics ++ drop (place + 1) metrics) ≡ front ++ rest = flat_map-append blocks_of_metric (take place metrics) (drop (place + 1) metrics) in
    subst (λ (l : List Block). IsPermutation l (own ++ blocks_in_use (take place metrics ++ drop (place + 1) metrics))) (sym whole)
    (subst (λ (l : List Block). IsPermutation (front ++ (own ++ rest)) (own ++ l)) (sym after) (swapped front own rest))

-- ---- the blocks of each series

pub next_kept : (kept : List Kept) (i : ℕ) (splits : List Stored) (blocks : List Block) → IsSomeAnd (slice_get kept i) (λ (k : Kept). splits ≡ k.splits) → blocks ≡ map (λ (s : Stored). s.block) splits → blocks_of_kept (drop i kept) ≡ blocks ++ blocks_of_kept (drop (i + 1) kept)
next_kept kept i splits blocks there are = by (slice_get kept i) refl there
  where
    by : (o : Option Kept) → slice_get kept i ≡ o → IsSomeAnd o (λ (k : Kept). splits ≡ k.splits) → blocks_of_kept (drop i kept) ≡ blocks ++ blocks_of_kept (drop (i + 1) kept)
    by None is there = absurd there
    by (Some k) is there =
        ap blocks_of_kept (drop_got kept i k is)
        ∙ ap (λ (l : List Stored). map (λ (s : Stored). s.block) l ++ blocks_of_kept (drop (i + 1) kept)) (sym there)
        ∙ ap (λ l. l ++ blocks_of_kept (drop (i + 1) kept)) (sym are)

pub next_kept_held : (kept : List Kept) (i : ℕ) (splits : List Stored) (blocks : List Block) (slots : List ℕ) (used : ExtentsView) → IsSomeAnd (slice_get kept i) (λ (k : Kept). splits ≡ k.splits) → blocks ≡ map (λ (s : Stored). s.block) splits → AreHeld (places_of (blocks_of_kept (drop i kept)) ++ slots) used → AreHeld (places_of blocks ++ (places_of (blocks_of_kept (drop (i + 1) kept)) ++ slots)) used
next_kept_held kept i splits blocks slots used there are held =
    subst (λ (l : List ℕ). AreHeld l used) (ap (λ l. places_of l ++ slots) (next_kept kept i splits blocks there are) ∙ ap (λ l. l ++ slots) (places-append blocks (blocks_of_kept (drop (i + 1) kept))) ∙ append_assoc (places_of blocks) (places_of (blocks_of_kept (drop (i + 1) kept))) slots) held

pub kept_given : (kept : List Kept) (i : ℕ) (slots : List ℕ) (used : ExtentsView) → length kept ≤ i → AreHeld (places_of (blocks_of_kept (drop i kept)) ++ slots) used → AreHeld slots used
kept_given kept i slots used end held = subst (λ (ks : List Kept). AreHeld (places_of (blocks_of_kept ks) ++ slots) used) (drop_all i kept end) held

pub metric_parts : (m : Shelved) (slots : List ℕ) (used : ExtentsView) → AreHeld (places_of (blocks_of_metric m) ++ slots) used → AreHeld (places_of m.chunks ++ (places_of (blocks_of_kept m.kept) ++ slots)) used
metric_parts m slots used held =
    subst (λ (l : List ℕ). AreHeld l used) (ap (λ l. l ++ slots) (places-append m.chunks (blocks_of_kept m.kept)) ∙ append_assoc (places_of m.chunks) (places_of (blocks_of_kept m.kept)) slots) held

pub drop_held : (taken : List ℕ) (metrics : List Shelved) (place : ℕ) (m : Shelved) (used : ExtentsView) → slice_get metrics place ≡ Some m → AreHeld (taken ++ places_of (blocks_in_use metrics)) used → AreHeld (places_of (blocks_of_metric m) ++ (taken ++ places_of (blocks_in_use (take place metrics ++ drop (place + 1) metrics)))) used
drop_held taken metrics place m used there held =
    let after = blocks_in_use (take place metrics ++ drop (place + 1) metrics) in
    let own = blocks_of_metric m in
    let moved : IsPermutation (places_of (blocks_in_use metrics)) (places_of own ++ places_of after) =
    subst (IsPermutation (places_of (blocks_in_use metrics))) (places-append own after) (IsPermutation-map (λ (b : Block). b.at) (blocks_in_use metrics) (own ++ after) (drop_blocks metrics place m there)) in
    held_permutation (taken ++ places_of (blocks_in_use metrics)) (places_of own ++ (taken ++ places_of after)) used
    (IsPermutation-trans (taken ++ places_of (blocks_in_use metrics)) (taken ++ (places_of own ++ places_of after)) (places_of own ++ (taken ++ places_of after))
    (IsPermutation-append_right taken (places_of (blocks_in_use metrics)) (places_of own ++ places_of after) moved)
    (swapped taken (places_of own) (places_of after))) held

pub drop_all_blocks : (size : ℕ) (taken : List ℕ) (metrics : List Shelved) (place : ℕ) (m : Shelved) (used : ExtentsView) → slice_get metrics place ≡ Some m → AreHeld (taken ++ places_of (blocks_in_use (take place metrics ++ drop (place + 1) metrics))) used → AreBlocks size metrics → AreBlocks size (take place metrics ++ drop (place + 1) metrics)
drop_all_blocks size taken metrics place m used there held old =
    let after = blocks_in_use (take place metrics ++ drop (place + 1) metrics) in
    record {
      each = All-right (IsInSlot size) (blocks_of_metric m) after (All-permutation (IsInSlot size) (blocks_in_use metrics) (blocks_of_metric m ++ after) (drop_blocks metrics place m there) old.each);
      apart = apart_of after (pairs-right (λ (a b : ℕ). a ≢ b) taken (places_of after) held.apart);
    }
  where
    apart_of : (blocks : List Block) → AllPairs (λ (a b : ℕ). a ≢ b) (places_of blocks) → AllPairs (λ (b c : Block). b.at ≢ c.at) blocks
    apart_of blocks apart i j d lt below same =
        let long : length (places_of blocks) ≡ length blocks = length-map blocks (λ (b : Block). b.at) in
        apart i j d.at lt (omega (arith, below, long)) (get_or-map (λ (b : Block). b.at) blocks i d d.at (omega (arith, lt, below)) ∙ same ∙ sym (get_or-map (λ (b : Block). b.at) blocks j d d.at below))

pub drop_rising : (metrics : List Shelved) (place : ℕ) → IsStrictlyIncreasing (map number_of metrics) → IsStrictlyIncreasing (map number_of (take place metrics ++ drop (suc place) metrics))
drop_rising metrics place rising =
    let same : take place (map number_of metrics) ++ drop (suc place) (map number_of metrics) ≡ map number_of (take place metrics ++ drop (suc place) metrics) =
    ap (λ l. l ++ drop (suc place) (map number_of metrics)) (take-map number_of place metrics) ∙ ap (λ l. map number_of (take place metrics) ++ l) (drop-map number_of (suc place) metrics) ∙ sym (map-append number_of (take place metrics) (drop (suc place) metrics)) in
    rising_from_Rises (map number_of (take place metrics ++ drop (suc place) metrics)) (subst Rises same (Rises-remove place (map number_of metrics) (Rises_from_rising (map number_of metrics) rising)))

pub drop_ids : (ids : List MetricId) (metrics : List Shelved) (place : ℕ) → ids ≡ map (λ (m : Shelved). m.id) metrics → take place ids ++ drop (suc place) ids ≡ map (λ (m : Shelved). m.id) (take place metrics ++ drop (suc place) metrics)
drop_ids ids metrics place are =
    ap (λ (l : List MetricId). take place l ++ drop (suc place) l) are
    ∙ ap (λ l. l ++ drop (suc place) (map (λ (m : Shelved). m.id) metrics)) (take-map (λ (m : Shelved). m.id) place metrics)
    ∙ ap (λ l. map (λ (m : Shelved). m.id) (take place metrics) ++ l) (drop-map (λ (m : Shelved). m.id) (suc place) metrics)
    ∙ sym (map-append (λ (m : Shelved). m.id) (take place metrics) (drop (suc place) metrics))

pub drop_filed : (metrics : List Shelved) (place : ℕ) → All IsFiled metrics → All IsFiled (take place metrics ++ drop (suc place) metrics)
drop_filed metrics place all = All-append IsFiled (take place metrics) (drop (suc place) metrics) (All-take IsFiled place metrics all) (All-drop IsFiled (suc place) metrics all)

-- ---- blocks of a commit that is read

pub held_stays : (before freed behind new : List Block) (used : ExtentsView) (moved : IsMoved before freed behind new) → AreHeld (places_of before) used → AreHeld (places_of freed ++ places_of moved.stays) used
held_stays before freed behind new used moved held =
    subst (λ (l : List ℕ). AreHeld l used) (places-append freed moved.stays) (held_permutation (places_of before) (places_of (freed ++ moved.stays)) used (IsPermutation-map (λ (b : Block). b.at) before (freed ++ moved.stays) moved.old) held)

pub held_behind : (before freed behind new : List Block) (used : ExtentsView) (moved : IsMoved before freed behind new) → AreHeld (places_of new ++ places_of moved.stays) used → AreHeld (places_of behind) used
held_behind before freed behind new used moved held =
    held_permutation (places_of (new ++ moved.stays)) (places_of behind) used (IsPermutation-map (λ (b : Block). b.at) (new ++ moved.stays) behind (IsPermutation-sym behind (new ++ moved.stays) moved.then)) (subst (λ (l : List ℕ). AreHeld l used) (sym (places-append new moved.stays)) held)

pub apart_behind : (before freed behind new : List Block) (moved : IsMoved before freed behind new) → AllPairs (λ (b c : Block). b.at ≢ c.at) behind → AllPairs (λ (a b : ℕ). a ≢ b) (places_of new ++ places_of moved.stays)
apart_behind before freed behind new moved apart =
    subst (AllPairs (λ (a b : ℕ). a ≢ b)) (places-append new moved.stays)
    (apart_permutation (places_of behind) (places_of (new ++ moved.stays)) (IsPermutation-map (λ (b : Block). b.at) behind (new ++ moved.stays) moved.then) (places_apart behind apart))
  where
    places_apart : (blocks : List Block) → AllPairs (λ (b c : Block). b.at ≢ c.at) blocks → AllPairs (λ (a b : ℕ). a ≢ b) (places_of blocks)
    places_apart blocks apart i j d lt below same =
        let long : length (places_of blocks) ≡ length blocks = length-map blocks (λ (b : Block). b.at) in
        let e : Block = record { at = d; len = 0 } in
        apart i j e lt (omega (arith, below, long)) (sym (get_or-map (λ (b : Block). b.at) blocks i e d (omega (arith, lt, below, long))) ∙ same ∙ get_or-map (λ (b : Block). b.at) blocks j e d (omega (arith, below, long)))

pub same_blocks : (size : ℕ) (xs ys : List Shelved) → blocks_in_use xs ≡ blocks_in_use ys → AreBlocks size ys → AreBlocks size xs
same_blocks size xs ys same blocks =
    record {
      each = subst (All (IsInSlot size)) (sym same) blocks.each;
      apart = subst (AllPairs (λ (b c : Block). b.at ≢ c.at)) (sym same) blocks.apart;
    }

pub take_nil : (n : ℕ) (l : List ℕ) → l ≡ [] → take n l ≡ []
take_nil zero l is = refl
take_nil (suc n) l is = ap (take (suc n)) is

module _ (metrics : List Shelved) (c : CommitItem) (place : ℕ) (is : IsPlaceOf c.metric metrics place) (rising : IsStrictlyIncreasing (map number_of metrics)) (filed : All IsFiled metrics) (live : MayFollow metrics (items.Commit c)) (order : AllPairs ComesBefore c.changes) where
  pub read_moves : IsMoved (blocks_in_use metrics) (freed_blocks is.metric c.changes) (blocks_in_use (set metrics place (committed c is.metric))) (new_blocks c)
  read_moves = commit_moves metrics c place is rising filed live order

  pub read_before : (n : ℕ) (taken : List ℕ) (used : ExtentsView) → taken ≡ [] → AreHeld (take n taken ++ places_of (blocks_in_use metrics)) used → (slots : List ℕ) × AreHeld (places_of (freed_blocks is.metric c.changes) ++ slots) used
  read_before n taken used none held =
      (places_of read_moves.stays, held_stays (blocks_in_use metrics) (freed_blocks is.metric c.changes) (blocks_in_use (set metrics place (committed c is.metric))) (new_blocks c) used read_moves (subst (λ (l : List ℕ). AreHeld (l ++ places_of (blocks_in_use metrics)) used) (take_nil n taken none) held))

  pub read_behind : (n : ℕ) (taken : List ℕ) (blocks : List Block) (old new : ExtentsView) → taken ≡ [] → blocks ≡ new_blocks c → AreHeld (take n taken ++ places_of (blocks_in_use metrics)) old → ((slots : List ℕ) → AreHeld (places_of (freed_blocks is.metric c.changes) ++ slots) old → AreHeld (places_of blocks ++ slots) new) → AreHeld (places_of (blocks_in_use (set metrics place (committed c is.metric)))) new
  unfolding read_before read_moves
  read_behind n taken blocks old new none are held follows =
      let before = read_before n taken old none held in
      held_behind (blocks_in_use metrics) (freed_blocks is.metric c.changes) (blocks_in_use (set metrics place (committed c is.metric))) (new_blocks c) new read_moves
      (subst (λ (bs : List Block). AreHeld (places_of bs ++ places_of read_moves.stays) new) are (follows before.0 before.1))

  pub read_refused : (n : ℕ) (taken : List ℕ) (blocks : List Block) (old : ExtentsView) → taken ≡ [] → blocks ≡ new_blocks c → AreHeld (take n taken ++ places_of (blocks_in_use metrics)) old → ((slots : List ℕ) → AreHeld (places_of (freed_blocks is.metric c.changes) ++ slots) old → AllPairs (λ (a b : ℕ). a ≢ b) (places_of blocks ++ slots) → ⊥) → (size : ℕ) → AreBlocks size (after_record metrics (items.Commit c)) → ⊥
  unfolding read_before read_moves
  read_refused n taken blocks old none are held refused size after =
      let before = read_before n taken old none held in
      let there : AreBlocks size (set metrics place (committed c is.metric)) = subst (AreBlocks size) (commit_is metrics c place is rising filed live order) after in
      refused before.0 before.1 (subst (λ (bs : List Block). AllPairs (λ (a b : ℕ). a ≢ b) (places_of bs ++ before.0)) (sym are) (apart_behind (blocks_in_use metrics) (freed_blocks is.metric c.changes) (blocks_in_use (set metrics place (committed c is.metric))) (new_blocks c) read_moves there.apart))

  pub read_slots : (size : ℕ) → AreBlocks size (after_record metrics (items.Commit c)) → All (IsInSlot size) (new_blocks c)
  read_slots size after =
      let there : AreBlocks size (set metrics place (committed c is.metric)) = subst (AreBlocks size) (commit_is metrics c place is rising filed live order) after in
      let moved = commit_moves metrics c place is rising filed live order in
      All-left (IsInSlot size) (new_blocks c) moved.stays (All-permutation (IsInSlot size) (blocks_in_use (set metrics place (committed c is.metric))) (new_blocks c ++ moved.stays) moved.then there.each)

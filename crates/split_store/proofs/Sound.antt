-- What is so of each live metric of legal records.
use Rattle.std.proofs.Common.{◌≡◌, ℕ, ◌+◌, ◌<◌, ◌≤◌, ◌%◌, eqb, ltb, Bool, true, false, cond, not, List, [], ◌∷◌, ◌++◌, map, slice_get, Option, Some, None, refl, sym, ap, subst, ◌∙◌, arith}
use Rattle.std.specs.List.{All, filter, flat_map}
use Rattle.std.specs.List.Sorted.{IsStrictlyIncreasing}
use Rattle.std.proofs.lemmas.Bool.{and_parts, eqb-true}
use Rattle.std.proofs.lemmas.List.Elements.{All-nil, All-cons, All-head, All-tail, All-append, All-filter, All-map, All-weaker}
use Rattle.archive_policy.specs.declared.definition.Definition.{Definition}
use Rattle.archive_policy.specs.declared.kind.Kind.{Kind}
use Rattle.archive_policy.specs.Policies.{ArchivePolicy}
use Rattle.series_model.specs.declared.metric.MetricId.{MetricId}
use Rattle.series_model.specs.Stored.{split_span}
use Rattle.series_model.proofs.Rising.{Above, Rises, Rises_from_rising}
use Rattle.gno_codec.specs.declared.item.Block.{Block}
use Rattle.gno_codec.specs.declared.item.Change.{Change}
use Rattle.gno_codec.specs.declared.item.CommitItem.{CommitItem}
use Rattle.gno_codec.specs.declared.item.ShelfItem.{ShelfItem}
use Rattle.gno_codec.specs.declared.item.ShelfItem.TheVariants as items
use Rattle.shelf_records.specs.declared.moves.Move.{Move}
use Rattle.shelf_records.specs.declared.series.Stored.{Stored}
use Rattle.shelf_records.specs.Series.{after_move, after_moves, block_of, changed, stored_or_gone}
use Rattle.shelf_records.specs.Shelved.{AreBlocks, FitsMetric, IsInSlot, IsOfPolicy, Kept, MayFollow, Shelved, after_record, blocks_of_metric, committed, is_change_of, kept_after, metric_of, move_of, none_kept, registered}
use Rattle.shelf_blocks.specs.Turns.{AreWithin, HasKeys}
use Rattle.shelf_records.specs.Filed.{is_series_of, splits_of}
use Rattle.shelf_blocks.proofs.Held.{all_back, all_front, all_mapped, all_parts}
use Rattle.split_store.specs.Loading.{IsSound}

-- ---- keys

abbrev Keyed : (ℕ → Type 0) → List Stored → Type 0
Keyed P splits = All (λ s. P s.key) splits

put_keyed : (P : ℕ → Type 0) (key : ℕ) (block : Option Block) → P key → Keyed P (stored_or_gone key block)
put_keyed P key None has = All-nil (λ (s : Stored). P s.key)
put_keyed P key (Some b) has = All-cons (λ (s : Stored). P s.key) (record { key = key; block = b }) [] has (All-nil (λ (s : Stored). P s.key))

changed_keyed : (P : ℕ → Type 0) (key : ℕ) (block : Option Block) (splits : List Stored) → P key → Keyed P splits → Keyed P (changed key block splits)
changed_keyed P key block splits has all =
    let own : Stored → Type 0 = λ s. P s.key in
    All-append own (filter (λ (s : Stored). ltb s.key key) splits) (stored_or_gone key block ++ filter (λ (s : Stored). ltb key s.key) splits)
    (All-filter (λ (s : Stored). ltb s.key key) own splits all)
    (All-append own (stored_or_gone key block) (filter (λ (s : Stored). ltb key s.key) splits) (put_keyed P key block has) (All-filter (λ (s : Stored). ltb key s.key) own splits all))

moved_keyed : (P : ℕ → Type 0) (moves : List Move) (splits : List Stored) → All (λ (m : Move). P m.key) moves → Keyed P splits → Keyed P (after_moves moves splits)
moved_keyed P [] splits moves_have all = all
moved_keyed P (m ∷ moves) splits moves_have all =
    moved_keyed P moves (after_move splits m) (All-tail (λ (m : Move). P m.key) m moves moves_have)
    (changed_keyed P m.key m.block splits (All-head (λ (m : Move). P m.key) m moves moves_have) all)

-- ---- one metric

none_keys : (policy : ArchivePolicy) (kinds : List Kind) (place : ℕ) → All (HasKeys policy) (map (λ (kind : Kind). record { definition = place; kind = kind; splits = [] }) kinds)
none_keys policy [] place = All-nil (HasKeys policy)
none_keys policy (k ∷ kinds) place =
    All-cons (HasKeys policy) (record { definition = place; kind = k; splits = [] }) (map (λ (kind : Kind). record { definition = place; kind = kind; splits = [] }) kinds)
    (λ d there. All-nil (λ (s : Stored). s.key % split_span d.granularity ≡ 0)) (none_keys policy kinds place)

no_keys : (policy : ArchivePolicy) (kinds : List Kind) (place : ℕ) (ds : List Definition) → All (HasKeys policy) (none_kept kinds place ds)
no_keys policy kinds place [] = All-nil (HasKeys policy)
no_keys policy kinds place (d ∷ ds) =
    All-append (HasKeys policy) (map (λ (kind : Kind). record { definition = place; kind = kind; splits = [] }) kinds) (none_kept kinds (place + 1) ds) (none_keys policy kinds place) (no_keys policy kinds (place + 1) ds)

registered_sound : (id : MetricId) (done : ℕ) (policy : ArchivePolicy) → IsSound (registered id done policy)
registered_sound id done policy = record { chunks = (λ some. absurd cc, λ ne. absurd (ne refl)); keys = no_keys policy policy.kinds 0 policy.definitions }

-- the changes of one definition and kind
own_moves : (policy : ArchivePolicy) (kept : Kept) (d : Definition) (changes : List Change) → slice_get policy.definitions kept.definition ≡ Some d → All (IsOfPolicy policy) changes
    → All (λ (m : Move). m.key % split_span d.granularity ≡ 0) (map move_of (filter (is_change_of kept) changes))
own_moves policy kept d changes there all = All-map (λ (m : Move). m.key % split_span d.granularity ≡ 0) move_of (filter (is_change_of kept) changes) (by changes all)
  where
    by : (changes : List Change) → All (IsOfPolicy policy) changes → All (λ (c : Change). c.key % split_span d.granularity ≡ 0) (filter (is_change_of kept) changes)
    by [] all = All-nil (λ (c : Change). c.key % split_span d.granularity ≡ 0)
    by (c ∷ changes) all = by_test (is_change_of kept c) refl (by changes (All-tail (IsOfPolicy policy) c changes all))
      where
        here : is_change_of kept c ≡ true → c.key % split_span d.granularity ≡ 0
        here own =
            let is = All-head (IsOfPolicy policy) c changes all in
            let same : c.definition ≡ kept.definition = eqb-true c.definition kept.definition (and_parts (eqb c.definition kept.definition) _ own).0 in
            let one : Some is.definition ≡ Some d = sym is.there ∙ ap (slice_get policy.definitions) same ∙ there in
            let it : is.definition ≡ d = cc in
            subst (λ (e : Definition). c.key % split_span e.granularity ≡ 0) it is.key

        by_test : (t : Bool) → is_change_of kept c ≡ t → All (λ (c : Change). c.key % split_span d.granularity ≡ 0) (filter (is_change_of kept) changes) → All (λ (c : Change). c.key % split_span d.granularity ≡ 0) (cond t (c ∷ filter (is_change_of kept) changes) (filter (is_change_of kept) changes))
        by_test true own rest = All-cons (λ (c : Change). c.key % split_span d.granularity ≡ 0) c (filter (is_change_of kept) changes) (here own) rest
        by_test false own rest = rest

kept_keys : (policy : ArchivePolicy) (changes : List Change) (kept : Kept) → All (IsOfPolicy policy) changes → HasKeys policy kept → HasKeys policy (kept_after changes kept)
kept_keys policy changes kept all has d there =
    moved_keyed (λ key. key % split_span d.granularity ≡ 0) (map move_of (filter (is_change_of kept) changes)) kept.splits (own_moves policy kept d changes there all) (has d there)

committed_sound : (c : CommitItem) (m : Shelved) → FitsMetric c m → IsSound m → IsSound (committed c m)
committed_sound c m fits sound = record {
  chunks = fits.chunks;
  keys = All-map (HasKeys m.policy) (kept_after c.changes) m.kept (All-weaker (HasKeys m.policy) (λ k. HasKeys m.policy (kept_after c.changes k)) (λ k has. kept_keys m.policy c.changes k fits.changes has) m.kept sound.keys);
}

-- ---- all metrics

abbrev pub number_of : Shelved → ℕ
number_of m = m.id.0

pub above_all : (low : ℕ) (metrics : List Shelved) → Above low (map number_of metrics) → All (λ (m : Shelved). low < m.id.0) metrics
above_all low [] above = All-nil (λ (m : Shelved). low < m.id.0)
above_all low (m ∷ metrics) above = All-cons (λ (m : Shelved). low < m.id.0) m metrics above.0 (above_all low metrics above.1)

others_stay : (c : CommitItem) (metrics : List Shelved) → All (λ (m : Shelved). c.metric.0 < m.id.0) metrics → All IsSound metrics → All IsSound (after_record metrics (items.Commit c))
others_stay c [] later all = all
others_stay c (m ∷ metrics) later all =
    All-cons IsSound (cond (eqb m.id.0 c.metric.0) (committed c m) m) (after_record metrics (items.Commit c))
    (let lt = All-head (λ (m : Shelved). c.metric.0 < m.id.0) m metrics later in by (eqb m.id.0 c.metric.0) refl lt)
    (others_stay c metrics (All-tail (λ (m : Shelved). c.metric.0 < m.id.0) m metrics later) (All-tail IsSound m metrics all))
  where
    by : (t : Bool) → eqb m.id.0 c.metric.0 ≡ t → c.metric.0 < m.id.0 → IsSound (cond t (committed c m) m)
    by true e lt = (let same = eqb-true m.id.0 c.metric.0 e in absurd (omega (arith, same, lt)))
    by false e lt = All-head IsSound m metrics all

commit_sound : (c : CommitItem) (metrics : List Shelved) (m : Shelved) → Rises (map number_of metrics) → All IsSound metrics → metric_of c.metric metrics ≡ Some m → FitsMetric c m → All IsSound (after_record metrics (items.Commit c))
commit_sound c [] m rises all found fits = absurd cc
commit_sound c (x ∷ metrics) m rises all found fits =
    by (eqb x.id.0 c.metric.0) refl (λ behind. commit_sound c metrics m rises.1 (All-tail IsSound x metrics all) behind fits) found
  where
    by : (t : Bool) → eqb x.id.0 c.metric.0 ≡ t → (metric_of c.metric metrics ≡ Some m → All IsSound (after_record metrics (items.Commit c))) → cond t (Some x) (metric_of c.metric metrics) ≡ Some m → All IsSound (cond t (committed c x) x ∷ after_record metrics (items.Commit c))
    by true e rest found =
        let same : x ≡ m = cc in
        let number = eqb-true x.id.0 c.metric.0 e in
        All-cons IsSound (committed c x) (after_record metrics (items.Commit c)) (committed_sound c x (subst (FitsMetric c) (sym same) fits) (All-head IsSound x metrics all))
        (others_stay c metrics (subst (λ n. All (λ (m : Shelved). n < m.id.0) metrics) number (above_all x.id.0 metrics rises.0)) (All-tail IsSound x metrics all))
    by false e rest found = All-cons IsSound x (after_record metrics (items.Commit c)) (All-head IsSound x metrics all) (rest found)

-- records that may follow leave sound metrics
pub sound_after : (metrics : List Shelved) (item : ShelfItem) → IsStrictlyIncreasing (map (λ (m : Shelved). m.id.0) metrics) → All IsSound metrics → MayFollow metrics item → All IsSound (after_record metrics item)
sound_after metrics (items.Register id done policy) rising all follows =
    All-append IsSound (filter (λ (m : Shelved). ltb m.id.0 id.0) metrics) (registered id done policy ∷ filter (λ (m : Shelved). ltb id.0 m.id.0) metrics)
    (All-filter (λ (m : Shelved). ltb m.id.0 id.0) IsSound metrics all)
    (All-cons IsSound (registered id done policy) (filter (λ (m : Shelved). ltb id.0 m.id.0) metrics) (registered_sound id done policy) (All-filter (λ (m : Shelved). ltb id.0 m.id.0) IsSound metrics all))
sound_after metrics (items.Commit c) rising all follows = commit_sound c metrics follows.0 (Rises_from_rising (map number_of metrics) rising) all follows.1 follows.2
sound_after metrics (items.Drop id) rising all follows = All-filter (λ (m : Shelved). not (eqb m.id.0 id.0)) IsSound metrics all

-- ---- a metric that is found

pub found_has : (P : Shelved → Type 0) (metrics : List Shelved) (id : MetricId) (m : Shelved) → All P metrics → metric_of id metrics ≡ Some m → P m
found_has P [] id m all found = absurd cc
found_has P (x ∷ metrics) id m all found = by (eqb x.id.0 id.0) (found_has P metrics id m (All-tail P x metrics all)) found
  where
    by : (t : Bool) → (metric_of id metrics ≡ Some m → P m) → cond t (Some x) (metric_of id metrics) ≡ Some m → P m
    by true rest found = let same : x ≡ m = cc in subst P same (All-head P x metrics all)
    by false rest found = rest found

-- its blocks lie within the disk
pub blocks_within : (size : ℕ) (metrics : List Shelved) (id : MetricId) (m : Shelved) → AreBlocks size metrics → metric_of id metrics ≡ Some m → All (λ (b : Block). b.at + b.len ≤ size) (blocks_of_metric m)
blocks_within size metrics id m blocks found =
    All-weaker (IsInSlot size) (λ (b : Block). b.at + b.len ≤ size) (λ b is. let s = is.short in let w = is.within in omega (arith, s, w)) (blocks_of_metric m)
    (found_has (λ (x : Shelved). All (IsInSlot size) (blocks_of_metric x)) metrics id m (all_parts (IsInSlot size) blocks_of_metric metrics blocks.each) found)

-- and so does the block of each split
found_block : (P : Block → Type 0) (splits : List Stored) (key : ℕ) (b : Block) → All P (map (λ (s : Stored). s.block) splits) → block_of key splits ≡ Some b → P b
found_block P [] key b all found = absurd cc
found_block P (s ∷ splits) key b all found = by (eqb s.key key) (found_block P splits key b (All-tail P s.block (map (λ (s : Stored). s.block) splits) all)) found
  where
    by : (t : Bool) → (block_of key splits ≡ Some b → P b) → cond t (Some s.block) (block_of key splits) ≡ Some b → P b
    by true rest found = let same : s.block ≡ b = cc in subst P same (All-head P s.block (map (λ (s : Stored). s.block) splits) all)
    by false rest found = rest found

series_blocks : (P : Block → Type 0) (kept : List Kept) (definition : ℕ) (kind : Kind) → All P (flat_map (λ (k : Kept). map (λ (s : Stored). s.block) k.splits) kept) → All P (map (λ (s : Stored). s.block) (splits_of definition kind kept))
series_blocks P [] definition kind all = All-nil P
series_blocks P (k ∷ kept) definition kind all = by (is_series_of definition kind k) (all_front P own rest all) (series_blocks P kept definition kind (all_back P own rest all))
  where
    own : List Block
    own = map (λ (s : Stored). s.block) k.splits

    rest : List Block
    rest = flat_map (λ (k : Kept). map (λ (s : Stored). s.block) k.splits) kept

    by : (t : Bool) → All P (map (λ (s : Stored). s.block) k.splits) → All P (map (λ (s : Stored). s.block) (splits_of definition kind kept)) → All P (map (λ (s : Stored). s.block) (cond t k.splits (splits_of definition kind kept)))
    by true here later = here
    by false here later = later

pub split_within : (size : ℕ) (metrics : List Shelved) (id : MetricId) (m : Shelved) (definition : ℕ) (kind : Kind) (key : ℕ) (b : Block) → AreBlocks size metrics → metric_of id metrics ≡ Some m → block_of key (splits_of definition kind m.kept) ≡ Some b → b.at + b.len ≤ size
split_within size metrics id m definition kind key b blocks found stored =
    let P : Block → Type 0 = λ b. b.at + b.len ≤ size in
    found_block P (splits_of definition kind m.kept) key b
    (series_blocks P m.kept definition kind (all_back P m.chunks (flat_map (λ (k : Kept). map (λ (s : Stored). s.block) k.splits) m.kept) (blocks_within size metrics id m blocks found))) stored

-- the blocks of each series lie within the disk
pub series_within : (size : ℕ) (metrics : List Shelved) (id : MetricId) (m : Shelved) → AreBlocks size metrics → metric_of id metrics ≡ Some m → All (AreWithin size) m.kept
series_within size metrics id m blocks found =
    let P : Block → Type 0 = λ b. b.at + b.len ≤ size in
    All-weaker (λ (k : Kept). All P (map (λ (s : Stored). s.block) k.splits)) (AreWithin size) (λ k all. all_mapped P (λ (s : Stored). s.block) k.splits all) m.kept
    (all_parts P (λ (k : Kept). map (λ (s : Stored). s.block) k.splits) m.kept (all_back P m.chunks (flat_map (λ (k : Kept). map (λ (s : Stored). s.block) k.splits) m.kept) (blocks_within size metrics id m blocks found)))

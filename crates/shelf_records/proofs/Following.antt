-- Records that follow.
use Rattle.std.proofs.Common.{◌≡◌, ◌≢◌, ℕ, zero, suc, ◌+◌, ◌*◌, ◌<◌, ◌≤◌, Bool, true, false, cond, eqb, List, [], ◌∷◌, ◌++◌, map, length, take, drop, set, get_or, Option, Some, None, refl, sym, ap, subst, ◌∙◌, append_assoc, arith}
use Rattle.std.specs.Prelude.{◌&&◌}
use Rattle.std.specs.Bool.{OnFalse, OnTrue}
use Rattle.std.specs.Option.{IsSomeAnd, option_map}
use Rattle.std.specs.List.{All, AllPairs, Contains, filter, position, slice_get}
use Rattle.std.proofs.Math.Logic.{⊎_elim}
use Rattle.std.proofs.lemmas.Bool.{cases_eq, eq-eqb, eqb-true, ne_eqb}
use Rattle.std.proofs.lemmas.Option.{none-some, same_Some}
use Rattle.std.proofs.lemmas.List.{drop_more, map-append, take-append-drop, take_all, take_more}
use Rattle.std.proofs.lemmas.List.Elements.{All-contains, Contains-append_cases, Contains-append_left, Contains-append_right, filter-append}
use Rattle.std.proofs.lemmas.List.Quantifiers.{position-Some}
use Rattle.std.proofs.lemmas.List.Sorted.{IsPermutation-middle, IsPermutation-sym}
use Rattle.archive_policy.specs.Kinds.{kind_index}
use Rattle.archive_policy.specs.Policies.{AreKinds, ArchivePolicy}
use Rattle.archive_policy.proofs.Rising.{Above, Rises, Rises_from_rising}
use Rattle.extent_map.proofs.RangeLemmas.{pairs-head}
use Rattle.extent_map.specs.Extents.{ExtentsView}
use Rattle.series_model.proofs.ByKey.{filter-keep, filter-skip}
use Rattle.gno_codec.specs.declared.item.Block.{Block}
use Rattle.gno_codec.specs.declared.item.Change.{Change}
use Rattle.shelf_records.specs.declared.moves.Move.{Move}
use Rattle.shelf_records.specs.declared.series.Stored.{Stored}
use Rattle.shelf_records.specs.Book.{places_of}
use Rattle.shelf_records.specs.Filed.{is_series_of, layout_of, with_splits}
use Rattle.shelf_records.specs.Series.{after_move, after_moves, changed}
use Rattle.shelf_records.specs.Shelved.{Kept, is_change_of, kept_after, move_of}
use Rattle.shelf_records.specs.Slots.{AreHeld}
use Rattle.shelf_records.proofs.Changing.{code, emptied_codes, layout_rises}
use Rattle.shelf_records.proofs.First.{first_at, position_is}
use Rattle.shelf_records.proofs.Places.{emptied_none, emptied_with, get_with}
use Rattle.shelf_records.proofs.Holding.{apart_permutation, held_permutation}

-- ---- blocks that are claimed one after another

pub claimed_more : (slots : List ℕ) (blocks : List Block) (i : ℕ) (d : Block) (used : ExtentsView) → i < length blocks → AreHeld ((get_or blocks i d).at ∷ (places_of (take i blocks) ++ slots)) used → AreHeld (places_of (take (i + 1) blocks) ++ slots) used
claimed_more slots blocks i d used below held =
    let at = (get_or blocks i d).at in
    let front = places_of (take i blocks) in
    let moved = held_permutation (at ∷ (front ++ slots)) (front ++ at ∷ slots) used (IsPermutation-sym (front ++ at ∷ slots) (at ∷ (front ++ slots)) (IsPermutation-middle front at slots)) held in
    let same : front ++ at ∷ slots ≡ places_of (take (i + 1) blocks) ++ slots =
    sym (append_assoc front (at ∷ []) slots) ∙ ap (λ l. l ++ slots) (sym (ap places_of (take_more blocks i d below) ∙ map-append (λ (b : Block). b.at) (take i blocks) (get_or blocks i d ∷ []))) in
    subst (λ (l : List ℕ). AreHeld l used) same moved

pub all_claimed : (slots : List ℕ) (blocks : List Block) (i : ℕ) (used : ExtentsView) → length blocks ≤ i → AreHeld (places_of (take i blocks) ++ slots) used → AreHeld (places_of blocks ++ slots) used
all_claimed slots blocks i used end held = subst (λ (bs : List Block). AreHeld (places_of bs ++ slots) used) (take_all i blocks end) held

-- a block at a place that is held stands beside another one
pub claim_refused : (slots : List ℕ) (blocks : List Block) (i : ℕ) (d : Block) → i < length blocks → Contains (places_of (take i blocks) ++ slots) (get_or blocks i d).at → AllPairs (λ (a b : ℕ). a ≢ b) (places_of blocks ++ slots) → ⊥
claim_refused slots blocks i d below there apart =
    let at = (get_or blocks i d).at in
    let front = places_of (take i blocks) in
    let rest = places_of (drop (i + 1) blocks) ++ slots in
    let whole : places_of blocks ++ slots ≡ front ++ at ∷ rest =
    ap (λ (bs : List Block). places_of bs ++ slots) (sym (take-append-drop i blocks) ∙ ap (λ l. take i blocks ++ l) (drop_more blocks i d below))
    ∙ ap (λ l. l ++ slots) (map-append (λ (b : Block). b.at) (take i blocks) (get_or blocks i d ∷ drop (i + 1) blocks))
    ∙ append_assoc front (at ∷ places_of (drop (i + 1) blocks)) slots in
    let moved = apart_permutation (front ++ at ∷ rest) (at ∷ (front ++ rest)) (IsPermutation-middle front at rest) (subst (AllPairs (λ (a b : ℕ). a ≢ b)) whole apart) in
    let others : All (λ b. at ≢ b) (front ++ rest) = pairs-head (λ (a b : ℕ). a ≢ b) at (front ++ rest) moved in
    let member : Contains (front ++ rest) at =
    ⊎_elim
    (λ early. Contains-append_left front rest at early)
    (λ late. Contains-append_right front rest at (Contains-append_right (places_of (drop (i + 1) blocks)) slots at late))
    (Contains-append_cases front slots at there) in
    All-contains (λ b. at ≢ b) (front ++ rest) at others member refl

-- ---- one change after another

fold-append : (xs ys : List Move) (s : List Stored) → after_moves (xs ++ ys) s ≡ after_moves ys (after_moves xs s)
fold-append [] ys s = refl
fold-append (m ∷ xs) ys s = fold-append xs ys (after_move s m)

pub after_both : (xs ys : List Change) (kept : List Kept) → map (kept_after (xs ++ ys)) kept ≡ map (kept_after ys) (map (kept_after xs) kept)
after_both xs ys [] = refl
after_both xs ys (k ∷ kept) =
    let own : after_moves (map move_of (filter (is_change_of k) (xs ++ ys))) k.splits ≡ after_moves (map move_of (filter (is_change_of k) ys)) (after_moves (map move_of (filter (is_change_of k) xs)) k.splits) =
    ap (λ (cs : List Change). after_moves (map move_of cs) k.splits) (filter-append (is_change_of k) xs ys)
    ∙ ap (λ (ms : List Move). after_moves ms k.splits) (map-append move_of (filter (is_change_of k) xs) (filter (is_change_of k) ys))
    ∙ fold-append (map move_of (filter (is_change_of k) xs)) (map move_of (filter (is_change_of k) ys)) k.splits in
    ap (λ (s : List Stored). record k { splits = s } ∷ map (kept_after (xs ++ ys)) kept) own ∙ ap (λ l. kept_after ys (kept_after xs k) ∷ l) (after_both xs ys kept)

pub after_none : (kept : List Kept) → map (kept_after []) kept ≡ kept
after_none [] = refl
after_none (k ∷ kept) = ap (λ l. k ∷ l) (after_none kept)

-- ---- one change of one series

test_same : (k : Kept) (c : Change) → is_change_of k c ≡ is_series_of c.definition c.kind k
test_same k c = both (flip c.definition k.definition) (flip (kind_index c.kind) (kind_index k.kind))
  where
    flip : (x y : ℕ) → eqb x y ≡ eqb y x
    flip x y = ⊎_elim (λ e. eq-eqb x y e ∙ sym (eq-eqb y x (sym e))) (λ apart. ne_eqb x y apart ∙ sym (ne_eqb y x (λ e. apart (sym e)))) (cases_eq x y)

    both : {a b c d : Bool} → a ≡ c → b ≡ d → a && b ≡ c && d
    both e f = cc

after_other : (k : Kept) (c : Change) → is_series_of c.definition c.kind k ≡ false → kept_after (c ∷ []) k ≡ k
after_other k c is =
    ap (λ (cs : List Change). record k { splits = after_moves (map move_of cs) k.splits }) (filter-skip (is_change_of k) c [] (test_same k c ∙ is))

after_own : (k : Kept) (c : Change) → is_series_of c.definition c.kind k ≡ true → kept_after (c ∷ []) k ≡ record k { splits = changed c.key c.block k.splits }
after_own k c is =
    ap (λ (cs : List Change). record k { splits = after_moves (map move_of cs) k.splits }) (filter-keep (is_change_of k) c [] (test_same k c ∙ is))

pub change_nowhere : (kept : List Kept) (c : Change) → first_at (is_series_of c.definition c.kind) kept ≡ None → map (kept_after (c ∷ [])) kept ≡ kept
change_nowhere [] c none = refl
change_nowhere (k ∷ kept) c none = by (is_series_of c.definition c.kind k) refl (first_at (is_series_of c.definition c.kind) kept) (change_nowhere kept c) none
  where
    by : (b : Bool) → is_series_of c.definition c.kind k ≡ b → (o : Option ℕ) → (o ≡ None → map (kept_after (c ∷ [])) kept ≡ kept) → cond (is_series_of c.definition c.kind k) (Some 0) (option_map (λ i. 1 + i) o) ≡ None → map (kept_after (c ∷ [])) (k ∷ kept) ≡ k ∷ kept
    by true is o rest none = absurd (none-some 0 (sym (sym (ap (λ b. cond b (Some 0) (option_map (λ i. 1 + i) o)) is) ∙ none)))
    by false is None rest none = ap (λ x. x ∷ map (kept_after (c ∷ [])) kept) (after_other k c is) ∙ ap (λ l. k ∷ l) (rest refl)
    by false is (Some i) rest none = absurd (none-some (1 + i) (sym (sym (ap (λ b. cond b (Some 0) (Some (1 + i))) is) ∙ none)))

own_code : (k : Kept) (c : Change) → is_series_of c.definition c.kind k ≡ true → code k ≡ c.definition * 16 + kind_index c.kind
own_code k c is = by (eqb k.definition c.definition) refl (eqb (kind_index k.kind) (kind_index c.kind)) refl is
  where
    by : (a : Bool) → eqb k.definition c.definition ≡ a → (b : Bool) → eqb (kind_index k.kind) (kind_index c.kind) ≡ b → a && b ≡ true → code k ≡ c.definition * 16 + kind_index c.kind
    by true d true i h = omega (arith, eqb-true k.definition c.definition d, eqb-true (kind_index k.kind) (kind_index c.kind) i)
    by true d false i h = cc
    by false d true i h = cc
    by false d false i h = cc

no_more : (k : Kept) (kept : List Kept) (c : Change) → is_series_of c.definition c.kind k ≡ true → Above (code k) (map code kept) → map (kept_after (c ∷ [])) kept ≡ kept
no_more k [] c own above = refl
no_more k (l ∷ kept) c own above = by (is_series_of c.definition c.kind l) refl (no_more k kept c own above.1)
  where
    by : (b : Bool) → is_series_of c.definition c.kind l ≡ b → map (kept_after (c ∷ [])) kept ≡ kept → map (kept_after (c ∷ [])) (l ∷ kept) ≡ l ∷ kept
    by true is rest = absurd (omega (arith, own_code l c is, own_code k c own, above.0))
    by false is rest = ap (λ x. x ∷ map (kept_after (c ∷ [])) kept) (after_other l c is) ∙ ap (λ x. l ∷ x) rest

pub change_somewhere : (kept : List Kept) (c : Change) (place : ℕ) (k : Kept) → Rises (map code kept) → first_at (is_series_of c.definition c.kind) kept ≡ Some place → slice_get kept place ≡ Some k → map (kept_after (c ∷ [])) kept ≡ set kept place (record k { splits = changed c.key c.block k.splits })
change_somewhere [] c place k rises is there = absurd (none-some k there)
change_somewhere (x ∷ kept) c place k rises is there = by (is_series_of c.definition c.kind x) refl (first_at (is_series_of c.definition c.kind) kept) (λ p o t. change_somewhere kept c p k rises.1 o t) place is there
  where
    by : (b : Bool) → is_series_of c.definition c.kind x ≡ b → (o : Option ℕ) → ((p : ℕ) → o ≡ Some p → slice_get kept p ≡ Some k → map (kept_after (c ∷ [])) kept ≡ set kept p (record k { splits = changed c.key c.block k.splits })) → (place : ℕ) → cond (is_series_of c.definition c.kind x) (Some 0) (option_map (λ i. 1 + i) o) ≡ Some place → slice_get (x ∷ kept) place ≡ Some k → map (kept_after (c ∷ [])) (x ∷ kept) ≡ set (x ∷ kept) place (record k { splits = changed c.key c.block k.splits })
    by true own o rest zero is there =
        let same : x ≡ k = same_Some x k there in
        ap (λ y. y ∷ map (kept_after (c ∷ [])) kept) (after_own x c own)
        ∙ ap (λ l. record x { splits = changed c.key c.block x.splits } ∷ l) (no_more x kept c own rises.0)
        ∙ ap (λ (y : Kept). record y { splits = changed c.key c.block y.splits } ∷ kept) same
    by true own o rest (suc p) is there = absurd (omega (arith, same_Some 0 (suc p) (sym (ap (λ b. cond b (Some 0) (option_map (λ i. 1 + i) o)) own) ∙ is)))
    by false own None rest place is there = absurd (none-some place (sym (ap (λ b. cond b (Some 0) None) own) ∙ is))
    by false own (Some i) rest zero is there = absurd (omega (arith, same_Some (1 + i) 0 (sym (ap (λ b. cond b (Some 0) (Some (1 + i))) own) ∙ is)))
    by false own (Some i) rest (suc p) is there =
        let here : i ≡ p = omega (arith, same_Some (1 + i) (suc p) (sym (ap (λ b. cond b (Some 0) (Some (1 + i))) own) ∙ is)) in
        ap (λ y. y ∷ map (kept_after (c ∷ [])) kept) (after_other x c own) ∙ ap (λ l. x ∷ l) (rest p (ap Some here) there)

pub with_set : (layout : List Kept) (series : List (List Stored)) (place : ℕ) (k : Kept) (s : List Stored) → slice_get (with_splits layout series) place ≡ Some k → with_splits layout (set series place s) ≡ set (with_splits layout series) place (record k { splits = s })
with_set [] series place k s there = absurd (none-some k there)
with_set (l ∷ layout) [] place k s there = absurd (none-some k there)
with_set (l ∷ layout) (x ∷ series) zero k s there = ap (λ (y : Kept). record y { splits = s } ∷ with_splits layout series) (same_Some (record l { splits = x }) k there)
with_set (l ∷ layout) (x ∷ series) (suc place) k s there = ap (λ ks. record l { splits = x } ∷ ks) (with_set layout series place k s there)

-- the series of a filed metric after a change
pub filed_change : (policy : ArchivePolicy) (series : List (List Stored)) (c : Change) (place : ℕ) (old new : List Stored) → AreKinds policy.kinds → length series ≡ length (layout_of policy) → position (is_series_of c.definition c.kind) (with_splits (layout_of policy) series) ≡ Some place → slice_get series place ≡ Some old → new ≡ changed c.key c.block old
    → with_splits (layout_of policy) (set series place new) ≡ map (kept_after (c ∷ [])) (with_splits (layout_of policy) series)
filed_change policy series c place old new kinds paired first there is =
    let layout = layout_of policy in
    let kept = with_splits layout series in
    let codes : Rises (map code kept) = subst Rises (sym (sym (emptied_codes kept) ∙ ap (map code) (emptied_with layout series paired ∙ emptied_none policy.kinds 0 policy.definitions))) (layout_rises policy.kinds 0 policy.definitions (Rises_from_rising (map kind_index policy.kinds) kinds.in_table_order)) in
    let k = at_some (slice_get kept place) (get_with layout series place old paired there) in
    with_set layout series place k.0 new k.1
    ∙ ap (λ (s : List Stored). set kept place (record k.0 { splits = s })) (is ∙ ap (changed c.key c.block) k.2)
    ∙ sym (change_somewhere kept c place k.0 codes (sym (position_is (is_series_of c.definition c.kind) kept) ∙ first) k.1)
  where
    at_some : (o : Option Kept) → IsSomeAnd o (λ k. old ≡ k.splits) → (k : Kept) × (o ≡ Some k) × (old ≡ k.splits)
    at_some None h = absurd h
    at_some (Some k) h = (k, refl, h)

pub filed_unchanged : (kept : List Kept) (c : Change) → position (is_series_of c.definition c.kind) kept ≡ None → map (kept_after (c ∷ [])) kept ≡ kept
filed_unchanged kept c none = change_nowhere kept c (sym (position_is (is_series_of c.definition c.kind) kept) ∙ none)

pub place_within : (kept : List Kept) (c : Change) (place : ℕ) → position (is_series_of c.definition c.kind) kept ≡ Some place → place < length kept
place_within kept c place is = (position-Some (is_series_of c.definition c.kind) kept place (record { definition = 0; kind = c.kind; splits = [] }) is).0

-- ---- a result that holds or not

pub at_true : {P : Type 0} (b : Bool) → b ≡ true → OnTrue b P → P
at_true true is then = then
at_true false is then = absurd (let no : false ≡ true → ⊥ = λ e. cc in no is)

pub at_false : {P : Type 0} (b : Bool) → b ≡ false → OnFalse b P → P
at_false false is then = then
at_false true is then = absurd (let no : true ≡ false → ⊥ = λ e. cc in no is)

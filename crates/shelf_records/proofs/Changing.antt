-- The changes of a policy's series.
use Rattle.std.proofs.Common.{◌≡◌, ℕ, zero, suc, ◌+◌, ◌*◌, ◌%◌, ◌<◌, ◌≤◌, true, false, eqb, List, [], ◌∷◌, ◌++◌, map, length, take, drop, Some, Vec, Global, refl, sym, ap, subst, ◌∙◌, inl, inr, append_assoc, append-nil, arith}
use Rattle.std.specs.Prelude.{◌&&◌}
use Rattle.std.specs.List.{All, AllPairs, Contains, filter, flat_map, slice_get}
use Rattle.std.specs.List.Sorted.{IsStrictlyIncreasing}
use Rattle.std.specs.Option.{option_to_list}
use Rattle.std.proofs.Math.Logic.{⊎_elim}
use Rattle.std.proofs.Math.Nat.{mul-le-mul_right}
use Rattle.std.proofs.lemmas.Bool.{eq-eqb, ne_eqb, cases_eq, cases_lt}
use Rattle.std.proofs.lemmas.List.{drop-drop, drop_all, length-drop, length-map, map-append}
use Rattle.std.proofs.lemmas.List.Concat.{flat_map-append}
use Rattle.std.proofs.lemmas.List.Elements.{All-append, All-cons, All-contains_itself, All-head, All-nil, All-tail, filter-append}
use Rattle.std.proofs.lemmas.List.Kept.{AllPairs-cons}
use Rattle.archive_policy.specs.declared.definition.Definition.{Definition}
use Rattle.archive_policy.specs.declared.kind.Kind.{Kind}
use Rattle.archive_policy.specs.Kinds.{kind_index}
use Rattle.archive_policy.specs.Policies.{ArchivePolicy}
use Rattle.archive_policy.proofs.KindLemmas.{place_below}
use Rattle.archive_policy.proofs.Rising.{Above, Rises, Rises_from_rising}
use Rattle.series_model.specs.Stored.{split_span}
use Rattle.series_model.proofs.ByKey.{filter-keep, filter-skip}
use Rattle.extent_map.proofs.JoinLemmas.{drop_got}
use Rattle.extent_map.proofs.RangeLemmas.{pairs-append}
use Rattle.gno_codec.specs.declared.item.Change.{Change}
use Rattle.gno_codec.specs.Shelf.{ComesBefore}
use Rattle.shelf_records.specs.declared.moves.Move.{Move}
use Rattle.shelf_records.specs.Changes.{HaveKeys, all_moved, blocks_of_changes, change_of, changes_by}
use Rattle.shelf_records.specs.Filed.{emptied, layout_of}
use Rattle.shelf_records.specs.Moves.{blocks_of_moves}
use Rattle.shelf_records.specs.Series.{after_moves}
use Rattle.shelf_records.specs.Shelved.{IsOfPolicy, Kept, is_change_of, kept_after, move_of, none_kept}
use Rattle.shelf_records.proofs.Merging.{get_drop}
use Rattle.shelf_records.proofs.Places.{none_of}

abbrev pub lists_of : List (Vec Move Global) → List (List Move)
lists_of moves = map (λ (own : Vec Move Global). own.items) moves

-- ---- one after another

pub changes-append : (xs ys : List Kept) (moves : List (List Move)) → length xs ≤ length moves → changes_by (xs ++ ys) moves ≡ changes_by xs (take (length xs) moves) ++ changes_by ys (drop (length xs) moves)
changes-append [] ys moves long = refl
changes-append (k ∷ xs) ys [] long = absurd (omega (arith, long))
changes-append (k ∷ xs) ys (own ∷ moves) long =
    ap (λ l. map (change_of k) own ++ l) (changes-append xs ys moves (omega (arith, long)))
    ∙ sym (append_assoc (map (change_of k) own) (changes_by xs (take (length xs) moves)) (changes_by ys (drop (length xs) moves)))

-- the changes of a definition and of those behind it
pub next_definition : (kinds : List Kind) (place : ℕ) (d : Definition) (ds : List Definition) (moves : List (List Move)) → length kinds ≤ length moves → changes_by (none_kept kinds place (d ∷ ds)) moves ≡ changes_by (map (none_of place) kinds) (take (length kinds) moves) ++ changes_by (none_kept kinds (place + 1) ds) (drop (length kinds) moves)
next_definition kinds place d ds moves long =
    let n = length-map kinds (none_of place) in
    changes-append (map (none_of place) kinds) (none_kept kinds (place + 1) ds) moves (omega (arith, n, long))
    ∙ ap (λ k. changes_by (map (none_of place) kinds) (take k moves) ++ changes_by (none_kept kinds (place + 1) ds) (drop k moves)) n

-- ---- the series of a policy stand in order, by a number of their own

abbrev pub code : Kept → ℕ
code kept = kept.definition * 16 + kind_index kept.kind

at_least : ℕ → List ℕ → Type 0
at_least low xs = All (λ x. low ≤ x) xs

above_least : (x low : ℕ) (ys : List ℕ) → x < low → All (λ y. low ≤ y) ys → Above x ys
above_least x low [] below all = tt
above_least x low (y ∷ ys) below all =
    (omega (arith, below, All-head (λ z. low ≤ z) y ys all), above_least x low ys below (All-tail (λ z. low ≤ z) y ys all))

above_both : (x : ℕ) (xs ys : List ℕ) → Above x xs → Above x ys → Above x (xs ++ ys)
above_both x [] ys a b = b
above_both x (w ∷ xs) ys a b = (a.0, above_both x xs ys a.1 b)

pub rises_both : (low : ℕ) (xs ys : List ℕ) → Rises xs → All (λ x. x < low) xs → Rises ys → All (λ y. low ≤ y) ys → Rises (xs ++ ys)
rises_both low [] ys r below s above = s
rises_both low (x ∷ xs) ys r below s above =
    (above_both x xs ys r.0 (above_least x low ys (All-head (λ z. z < low) x xs below) above), rises_both low xs ys r.1 (All-tail (λ z. z < low) x xs below) s above)

codes_above : (place : ℕ) (k : Kind) (kinds : List Kind) → Above (kind_index k) (map kind_index kinds) → Above (code (none_of place k)) (map code (map (none_of place) kinds))
codes_above place k [] above = tt
codes_above place k (x ∷ kinds) above = (omega (arith, above.0), codes_above place k kinds above.1)

codes_rise : (place : ℕ) (kinds : List Kind) → Rises (map kind_index kinds) → Rises (map code (map (none_of place) kinds))
codes_rise place [] rises = tt
codes_rise place (k ∷ kinds) rises = (codes_above place k kinds rises.0, codes_rise place kinds rises.1)

codes_below : (place : ℕ) (kinds : List Kind) → All (λ x. x < (place + 1) * 16) (map code (map (none_of place) kinds))
codes_below place [] = All-nil (λ x. x < (place + 1) * 16)
codes_below place (k ∷ kinds) =
    All-cons (λ x. x < (place + 1) * 16) (code (none_of place k)) (map code (map (none_of place) kinds)) (omega (arith, place_below k)) (codes_below place kinds)

codes_from : (low place : ℕ) (kinds : List Kind) → low ≤ place → All (λ x. low * 16 ≤ x) (map code (map (none_of place) kinds))
codes_from low place [] le = All-nil (λ x. low * 16 ≤ x)
codes_from low place (k ∷ kinds) le =
    All-cons (λ x. low * 16 ≤ x) (code (none_of place k)) (map code (map (none_of place) kinds)) (omega (arith, le)) (codes_from low place kinds le)

layout_from : (low place : ℕ) (kinds : List Kind) (ds : List Definition) → low ≤ place → All (λ x. low * 16 ≤ x) (map code (none_kept kinds place ds))
layout_from low place kinds [] le = All-nil (λ x. low * 16 ≤ x)
layout_from low place kinds (d ∷ ds) le =
    subst (λ (xs : List ℕ). All (λ x. low * 16 ≤ x) xs) (sym (map-append code (map (none_of place) kinds) (none_kept kinds (place + 1) ds)))
    (All-append (λ x. low * 16 ≤ x) (map code (map (none_of place) kinds)) (map code (none_kept kinds (place + 1) ds)) (codes_from low place kinds le) (layout_from low (place + 1) kinds ds (omega (arith, le))))

pub layout_rises : (kinds : List Kind) (place : ℕ) (ds : List Definition) → Rises (map kind_index kinds) → Rises (map code (none_kept kinds place ds))
layout_rises kinds place [] rises = tt
layout_rises kinds place (d ∷ ds) rises =
    subst Rises (sym (map-append code (map (none_of place) kinds) (none_kept kinds (place + 1) ds)))
    (rises_both ((place + 1) * 16) (map code (map (none_of place) kinds)) (map code (none_kept kinds (place + 1) ds)) (codes_rise place kinds rises) (codes_below place kinds) (layout_rises kinds (place + 1) ds rises) (layout_from (place + 1) (place + 1) kinds ds (omega arith)))

-- ---- the changes come in order

key_before : (k : Kept) (m : Move) (own : List Move) → Above m.key (map (λ (x : Move). x.key) own) → All (ComesBefore (change_of k m)) (map (change_of k) own)
key_before k m [] above = All-nil (ComesBefore (change_of k m))
key_before k m (x ∷ own) above =
    All-cons (ComesBefore (change_of k m)) (change_of k x) (map (change_of k) own) (inr (refl, inr (refl, above.0))) (key_before k m own above.1)

own_order : (k : Kept) (own : List Move) → Rises (map (λ (x : Move). x.key) own) → AllPairs ComesBefore (map (change_of k) own)
own_order k [] rises = λ i j d lt below. absurd (omega (arith, below))
own_order k (m ∷ own) rises =
    AllPairs-cons ComesBefore (change_of k m) (map (change_of k) own) (key_before k m own rises.0) (own_order k own rises.1)

series_before : (k l : Kept) (m x : Move) → code k < code l → ComesBefore (change_of k m) (change_of l x)
series_before k l m x below =
    ⊎_elim
    (λ lt. inl lt)
    (λ ge.
    let one = place_below k.kind in
    let other = place_below l.kind in
    let same : k.definition ≡ l.definition = omega (arith, ge, below, one, other) in
    inr (same, inl (omega (arith, same, below))))
    (cases_lt k.definition l.definition)

one_before : (k l : Kept) (m : Move) (own : List Move) → code k < code l → All (ComesBefore (change_of k m)) (map (change_of l) own)
one_before k l m [] below = All-nil (ComesBefore (change_of k m))
one_before k l m (x ∷ own) below =
    All-cons (ComesBefore (change_of k m)) (change_of l x) (map (change_of l) own) (series_before k l m x below) (one_before k l m own below)

before_others : (k : Kept) (m : Move) (layout : List Kept) (moves : List (List Move)) → Above (code k) (map code layout) → All (ComesBefore (change_of k m)) (changes_by layout moves)
before_others k m [] moves above = All-nil (ComesBefore (change_of k m))
before_others k m (l ∷ layout) [] above = All-nil (ComesBefore (change_of k m))
before_others k m (l ∷ layout) (own ∷ moves) above =
    All-append (ComesBefore (change_of k m)) (map (change_of l) own) (changes_by layout moves) (one_before k l m own above.0) (before_others k m layout moves above.1)

all_before : (k : Kept) (own : List Move) (layout : List Kept) (moves : List (List Move)) → Above (code k) (map code layout) → All (λ c. All (ComesBefore c) (changes_by layout moves)) (map (change_of k) own)
all_before k [] layout moves above = All-nil (λ c. All (ComesBefore c) (changes_by layout moves))
all_before k (m ∷ own) layout moves above =
    All-cons (λ c. All (ComesBefore c) (changes_by layout moves)) (change_of k m) (map (change_of k) own) (before_others k m layout moves above) (all_before k own layout moves above)

pub in_order : (layout : List Kept) (moves : List (List Move)) → Rises (map code layout) → All (λ own. IsStrictlyIncreasing (map (λ (m : Move). m.key) own)) moves → AllPairs ComesBefore (changes_by layout moves)
in_order [] moves rises all = λ i j d lt below. absurd (omega (arith, below))
in_order (k ∷ layout) [] rises all = λ i j d lt below. absurd (omega (arith, below))
in_order (k ∷ layout) (own ∷ moves) rises all =
    pairs-append ComesBefore (map (change_of k) own) (changes_by layout moves)
    (own_order k own (Rises_from_rising (map (λ (m : Move). m.key) own) (All-head (λ o. IsStrictlyIncreasing (map (λ (m : Move). m.key) o)) own moves all)))
    (in_order layout moves rises.1 (All-tail (λ o. IsStrictlyIncreasing (map (λ (m : Move). m.key) o)) own moves all))
    (all_before k own layout moves rises.0)

-- ---- each series has its own changes

own_changes : (k l : Kept) (own : List Move) → l.definition ≡ k.definition → kind_index l.kind ≡ kind_index k.kind → map move_of (filter (is_change_of k) (map (change_of l) own)) ≡ own
own_changes k l [] d i = refl
own_changes k l (m ∷ own) d i =
    let is : is_change_of k (change_of l m) ≡ true = rw (eq-eqb l.definition k.definition d, eq-eqb (kind_index l.kind) (kind_index k.kind) i) refl in
    ap (map move_of) (filter-keep (is_change_of k) (change_of l m) (map (change_of l) own) is) ∙ ap (λ ms. m ∷ ms) (own_changes k l own d i)

other_test : (k l : Kept) (m : Move) → (code l ≡ code k → ⊥) → is_change_of k (change_of l m) ≡ false
other_test k l m apart =
    ⊎_elim
    (λ same. ⊎_elim
    (λ index. absurd (apart (omega (arith, same, index))))
    (λ other. rw (eq-eqb l.definition k.definition same) (ne_eqb (kind_index l.kind) (kind_index k.kind) other))
    (cases_eq (kind_index l.kind) (kind_index k.kind)))
    (λ other. ap (λ b. b && eqb (kind_index l.kind) (kind_index k.kind)) (ne_eqb l.definition k.definition other))
    (cases_eq l.definition k.definition)

other_changes : (k l : Kept) (own : List Move) → (code l ≡ code k → ⊥) → filter (is_change_of k) (map (change_of l) own) ≡ []
other_changes k l [] apart = refl
other_changes k l (m ∷ own) apart =
    filter-skip (is_change_of k) (change_of l m) (map (change_of l) own) (other_test k l m apart) ∙ other_changes k l own apart

none_behind : (k : Kept) (layout : List Kept) (moves : List (List Move)) → Above (code k) (map code layout) → filter (is_change_of k) (changes_by layout moves) ≡ []
none_behind k [] moves above = refl
none_behind k (l ∷ layout) [] above = refl
none_behind k (l ∷ layout) (own ∷ moves) above =
    filter-append (is_change_of k) (map (change_of l) own) (changes_by layout moves)
    ∙ ap (λ cs. cs ++ filter (is_change_of k) (changes_by layout moves)) (other_changes k l own (λ same. omega (arith, same, above.0)))
    ∙ none_behind k layout moves above.1

-- changes of an earlier series don't move later ones
moved_behind : (l : Kept) (own : List Move) (changes : List Change) (kept : List Kept) → Above (code l) (map code kept) → map (kept_after (map (change_of l) own ++ changes)) kept ≡ map (kept_after changes) kept
moved_behind l own changes [] above = refl
moved_behind l own changes (k ∷ kept) above =
    let same : filter (is_change_of k) (map (change_of l) own ++ changes) ≡ filter (is_change_of k) changes =
    filter-append (is_change_of k) (map (change_of l) own) changes ∙ ap (λ cs. cs ++ filter (is_change_of k) changes) (other_changes k l own (λ e. omega (arith, e, above.0))) in
    ap (λ (cs : List Change). record k { splits = after_moves (map move_of cs) k.splits } ∷ map (kept_after (map (change_of l) own ++ changes)) kept) same
    ∙ ap (λ ks. kept_after changes k ∷ ks) (moved_behind l own changes kept above.1)

pub emptied_codes : (kept : List Kept) → map code (map emptied kept) ≡ map code kept
emptied_codes [] = refl
emptied_codes (x ∷ kept) = ap (λ xs. code x ∷ xs) (emptied_codes kept)

pub all_moves : (kept : List Kept) (moves : List (List Move)) → length moves ≡ length kept → Rises (map code kept) → map (kept_after (changes_by (map emptied kept) moves)) kept ≡ all_moved kept moves
all_moves [] moves long rises = refl
all_moves (k ∷ kept) [] long rises = absurd (omega (arith, long))
all_moves (k ∷ kept) (own ∷ moves) long rises =
    let changes = changes_by (map emptied kept) moves in
    let codes : map code (map emptied kept) ≡ map code kept = emptied_codes kept in
    let mine : map move_of (filter (is_change_of k) (map (change_of (emptied k)) own ++ changes)) ≡ own =
    ap (map move_of) (filter-append (is_change_of k) (map (change_of (emptied k)) own) changes ∙ ap (λ cs. filter (is_change_of k) (map (change_of (emptied k)) own) ++ cs) (none_behind k (map emptied kept) moves (subst (Above (code k)) (sym codes) rises.0)) ∙ append-nil (filter (is_change_of k) (map (change_of (emptied k)) own)))
    ∙ own_changes k (emptied k) own refl refl in
    ap (λ (ms : List Move). record k { splits = after_moves ms k.splits } ∷ map (kept_after (map (change_of (emptied k)) own ++ changes)) kept) mine
    ∙ ap (λ ks. record k { splits = after_moves own k.splits } ∷ ks) (moved_behind (emptied k) own changes kept rises.0 ∙ all_moves kept moves (omega (arith, long)) rises.1)

-- ---- their blocks

own_blocks : (k : Kept) (own : List Move) → blocks_of_changes (map (change_of k) own) ≡ blocks_of_moves own
own_blocks k [] = refl
own_blocks k (m ∷ own) = ap (λ bs. option_to_list m.block ++ bs) (own_blocks k own)

pub flat_map-map : {A B C : Type 0} (f : B → List C) (g : A → B) (xs : List A) → flat_map f (map g xs) ≡ flat_map (λ x. f (g x)) xs
flat_map-map f g [] = refl
flat_map-map f g (x ∷ xs) = ap (λ l. f (g x) ++ l) (flat_map-map f g xs)

pub all_blocks : (layout : List Kept) (moves : List (List Move)) → length moves ≡ length layout → blocks_of_changes (changes_by layout moves) ≡ flat_map blocks_of_moves moves
all_blocks [] [] long = refl
all_blocks [] (own ∷ moves) long = absurd (omega (arith, long))
all_blocks (k ∷ layout) [] long = refl
all_blocks (k ∷ layout) (own ∷ moves) long =
    flat_map-append (λ (c : Change). option_to_list c.block) (map (change_of k) own) (changes_by layout moves)
    ∙ ap (λ bs. bs ++ blocks_of_changes (changes_by layout moves)) (own_blocks k own)
    ∙ ap (λ bs. blocks_of_moves own ++ bs) (all_blocks layout moves (omega (arith, long)))

-- ---- they are of the policy

-- a definition and kind that the policy has
pub record IsKeptBy (policy : ArchivePolicy) (kept : Kept) : Type 0 where
  pub definition : Definition
  pub there : slice_get policy.definitions kept.definition ≡ Some definition
  pub kind : Contains policy.kinds kept.kind

kept_kinds : (policy : ArchivePolicy) (place : ℕ) (d : Definition) (kinds : List Kind) → slice_get policy.definitions place ≡ Some d → All (Contains policy.kinds) kinds → All (IsKeptBy policy) (map (none_of place) kinds)
kept_kinds policy place d [] there all = All-nil (IsKeptBy policy)
kept_kinds policy place d (k ∷ kinds) there all =
    All-cons (IsKeptBy policy) (none_of place k) (map (none_of place) kinds) (record { definition = d; there = there; kind = All-head (Contains policy.kinds) k kinds all })
    (kept_kinds policy place d kinds there (All-tail (Contains policy.kinds) k kinds all))

kept_layout : (policy : ArchivePolicy) (place : ℕ) (ds : List Definition) → drop place policy.definitions ≡ ds → All (IsKeptBy policy) (none_kept policy.kinds place ds)
kept_layout policy place [] is = All-nil (IsKeptBy policy)
kept_layout policy place (d ∷ ds) is =
    let there : slice_get policy.definitions place ≡ Some d = sym (get_drop place policy.definitions) ∙ ap (λ (xs : List Definition). slice_get xs 0) is in
    let behind : drop (place + 1) policy.definitions ≡ ds = sym (drop-drop 1 place policy.definitions) ∙ ap (λ (xs : List Definition). drop 1 xs) is in
    All-append (IsKeptBy policy) (map (none_of place) policy.kinds) (none_kept policy.kinds (place + 1) ds) (kept_kinds policy place d policy.kinds there (All-contains_itself policy.kinds)) (kept_layout policy (place + 1) ds behind)

own_policy : (policy : ArchivePolicy) (k : Kept) (is : IsKeptBy policy k) (own : List Move) → All (λ (m : Move). m.key % split_span is.definition.granularity ≡ 0) own → All (IsOfPolicy policy) (map (change_of k) own)
own_policy policy k is [] all = All-nil (IsOfPolicy policy)
own_policy policy k is (m ∷ own) all =
    All-cons (IsOfPolicy policy) (change_of k m) (map (change_of k) own) (record { definition = is.definition; there = is.there; kind = is.kind; key = All-head (λ (x : Move). x.key % split_span is.definition.granularity ≡ 0) m own all })
    (own_policy policy k is own (All-tail (λ (x : Move). x.key % split_span is.definition.granularity ≡ 0) m own all))

each_policy : (policy : ArchivePolicy) (layout : List Kept) (moves : List (List Move)) → All (IsKeptBy policy) layout
    → ((place : ℕ) (kept : Kept) (own : List Move) (d : Definition) → slice_get layout place ≡ Some kept → slice_get moves place ≡ Some own → slice_get policy.definitions kept.definition ≡ Some d → All (λ m. m.key % split_span d.granularity ≡ 0) own)
    → All (IsOfPolicy policy) (changes_by layout moves)
each_policy policy [] moves there keys = All-nil (IsOfPolicy policy)
each_policy policy (k ∷ layout) [] there keys = All-nil (IsOfPolicy policy)
each_policy policy (k ∷ layout) (own ∷ moves) there keys =
    let is = All-head (IsKeptBy policy) k layout there in
    All-append (IsOfPolicy policy) (map (change_of k) own) (changes_by layout moves) (own_policy policy k is own (keys 0 k own is.definition refl refl is.there))
    (each_policy policy layout moves (All-tail (IsKeptBy policy) k layout there) (λ place kept ms d h t s. keys (suc place) kept ms d h t s))

pub of_policy : (policy : ArchivePolicy) (moves : List (List Move)) → HaveKeys policy moves → All (IsOfPolicy policy) (changes_by (layout_of policy) moves)
of_policy policy moves keys =
    each_policy policy (layout_of policy) moves (kept_layout policy 0 policy.definitions refl) keys

-- ---- the loops

pub one_list : (d : ℕ) (kinds : List Kind) (moves : List (List Move)) (old new : List Change) (all : List Change) (place : ℕ) (kind : Kind) (own : List Move) → slice_get kinds place ≡ Some kind → slice_get moves place ≡ Some own → new ≡ old ++ map (change_of (none_of d kind)) own
    → old ++ changes_by (map (none_of d) (drop place kinds)) (drop place moves) ≡ all → new ++ changes_by (map (none_of d) (drop (place + 1) kinds)) (drop (place + 1) moves) ≡ all
one_list d kinds moves old new all place kind own here there is so =
    ap (λ (cs : List Change). cs ++ changes_by (map (none_of d) (drop (place + 1) kinds)) (drop (place + 1) moves)) is
    ∙ append_assoc old (map (change_of (none_of d kind)) own) (changes_by (map (none_of d) (drop (place + 1) kinds)) (drop (place + 1) moves))
    ∙ ap (λ (ks : List Kind). old ++ changes_by (map (none_of d) ks) (own ∷ drop (place + 1) moves)) (sym (drop_got kinds place kind here))
    ∙ ap (λ (ms : List (List Move)). old ++ changes_by (map (none_of d) (drop place kinds)) ms) (sym (drop_got moves place own there))
    ∙ so

get_definition : (ds : List Definition) (place : ℕ) → place < length ds → (d : Definition) × (slice_get ds place ≡ Some d)
get_definition [] place below = absurd (omega (arith, below))
get_definition (d ∷ ds) zero below = (d, refl)
get_definition (d ∷ ds) (suc place) below = get_definition ds place (omega (arith, below))

pub one_definition : (policy : ArchivePolicy) (moves : List (List Move)) (old new all : List Change) (place : ℕ) → place < length policy.definitions → length moves ≡ length policy.definitions * length policy.kinds → new ≡ old ++ changes_by (map (none_of place) policy.kinds) (take (length policy.kinds) (drop (place * length policy.kinds) moves))
    → old ++ changes_by (none_kept policy.kinds place (drop place policy.definitions)) (drop (place * length policy.kinds) moves) ≡ all
    → new ++ changes_by (none_kept policy.kinds (place + 1) (drop (place + 1) policy.definitions)) (drop ((place + 1) * length policy.kinds) moves) ≡ all
one_definition policy moves old new all place below long is so =
    let kinds = policy.kinds in
    let ds = policy.definitions in
    let n = length kinds in
    let rest = drop (place * n) moves in
    let room : (place + 1) * n ≤ length ds * n = mul-le-mul_right n (omega (arith, below)) in
    let fits : n ≤ length rest = omega (arith, length-drop (place * n) moves, long, room) in
    let next : (place + 1) * n ≡ place * n + n = omega arith in
    let later : drop ((place + 1) * n) moves ≡ drop n rest = ap (λ k. drop k moves) next ∙ sym (drop-drop n (place * n) moves) in
    ap (λ (cs : List Change). cs ++ changes_by (none_kept kinds (place + 1) (drop (place + 1) ds)) (drop ((place + 1) * n) moves)) is
    ∙ ap (λ (ms : List (List Move)). (old ++ changes_by (map (none_of place) kinds) (take n rest)) ++ changes_by (none_kept kinds (place + 1) (drop (place + 1) ds)) ms) later
    ∙ append_assoc old (changes_by (map (none_of place) kinds) (take n rest)) (changes_by (none_kept kinds (place + 1) (drop (place + 1) ds)) (drop n rest))
    ∙ ap (λ cs. old ++ cs) (there ds rest fits)
    ∙ so
  where
    there : (ds : List Definition) (rest : List (List Move)) → length policy.kinds ≤ length rest → changes_by (map (none_of place) policy.kinds) (take (length policy.kinds) rest) ++ changes_by (none_kept policy.kinds (place + 1) (drop (place + 1) policy.definitions)) (drop (length policy.kinds) rest) ≡ changes_by (none_kept policy.kinds place (drop place policy.definitions)) rest
    there ds rest fits =
        let d = get_definition policy.definitions place below in
        sym (ap (λ (xs : List Definition). changes_by (none_kept policy.kinds place xs) rest) (drop_got policy.definitions place d.0 d.1) ∙ next_definition policy.kinds place d.0 (drop (place + 1) policy.definitions) rest fits)

pub finished : (policy : ArchivePolicy) (moves : List (List Move)) (old all : List Change) (place : ℕ) → length policy.definitions ≤ place → old ++ changes_by (none_kept policy.kinds place (drop place policy.definitions)) (drop (place * length policy.kinds) moves) ≡ all → old ≡ all
finished policy moves old all place end so =
    sym (ap (λ (ds : List Definition). old ++ changes_by (none_kept policy.kinds place ds) (drop (place * length policy.kinds) moves)) (drop_all place policy.definitions end) ∙ append-nil old) ∙ so

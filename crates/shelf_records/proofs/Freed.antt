-- Which blocks a commit frees, and which it uses.
use Rattle.std.proofs.Common.{◌≡◌, ℕ, zero, suc, get_or, ◌+◌, ◌*◌, ◌<◌, Bool, true, false, not, cond, ◌⊎◌, ltb, eqb, List, [], ◌∷◌, ◌++◌, map, length, Option, Some, None, refl, sym, ap, subst, ◌∙◌, inl, inr, append_assoc, append-nil, arith}
use Rattle.std.specs.Prelude.{◌&&◌, ◌||◌}
use Rattle.std.specs.List.{All, AllPairs, filter, flat_map, list_any}
use Rattle.std.specs.List.Sorted.{IsPermutation}
use Rattle.std.specs.Option.{option_to_list}
use Rattle.std.proofs.Math.Logic.{⊎_elim}
use Rattle.std.proofs.lemmas.Bool.{both_ways, cases_eq, cases_lt, eq-eqb, eqb-true, le-ltb, lt-ltb, ne_eqb}
use Rattle.std.proofs.lemmas.Option.{slice_get_within}
use Rattle.std.proofs.lemmas.List.{map-append}
use Rattle.std.proofs.lemmas.List.Elements.{All-head, All-tail, filter-append}
use Rattle.std.proofs.lemmas.List.Sorted.{IsPermutation-append, IsPermutation-append_comm, IsPermutation-append_left, IsPermutation-append_right, IsPermutation-cons, IsPermutation-filter_both, IsPermutation-map, IsPermutation-middle, IsPermutation-refl, IsPermutation-sym, IsPermutation-trans}
use Rattle.archive_policy.specs.declared.definition.Definition.{Definition}
use Rattle.archive_policy.specs.declared.kind.Kind.{Kind}
use Rattle.archive_policy.specs.Kinds.{is_among, kind_index}
use Rattle.archive_policy.specs.Policies.{ArchivePolicy}
use Rattle.archive_policy.proofs.KindLemmas.{is_among-from}
use Rattle.archive_policy.proofs.Rising.{Above, Rises, Rises_from_rising}
use Rattle.series_model.proofs.ByKey.{filter-keep, filter-skip}
use Rattle.extent_map.proofs.RangeLemmas.{pairs-head, pairs-tail}
use Rattle.gno_codec.specs.declared.item.Block.{Block}
use Rattle.gno_codec.specs.declared.item.Change.{Change}
use Rattle.gno_codec.specs.declared.item.CommitItem.{CommitItem}
use Rattle.gno_codec.specs.Shelf.{ComesBefore}
use Rattle.shelf_records.specs.declared.series.Stored.{Stored}
use Rattle.shelf_records.specs.Book.{blocks_of_kept, changed_blocks, freed_blocks, new_blocks}
use Rattle.shelf_records.specs.Changes.{blocks_of_changes}
use Rattle.shelf_records.specs.Filed.{IsFiled, emptied, is_series_of, layout_of, splits_of}
use Rattle.shelf_records.specs.Series.{after_moves, block_of, stored_or_gone}
use Rattle.shelf_records.specs.Shelved.{IsOfPolicy, Kept, Shelved, blocks_of_metric, committed, is_change_of, kept_after, move_of, none_kept}
use Rattle.shelf_records.proofs.Changing.{code, emptied_codes, flat_map-map, layout_rises}
use Rattle.shelf_records.proofs.Places.{none_of}

-- ---- lists in another order

pub shuffle : {X : Type 0} (a b c d : List X) → IsPermutation ((a ++ b) ++ (c ++ d)) ((a ++ c) ++ (b ++ d))
shuffle a b c d =
    let one : (a ++ b) ++ (c ++ d) ≡ a ++ ((b ++ c) ++ d) = append_assoc a b (c ++ d) ∙ ap (λ l. a ++ l) (sym (append_assoc b c d)) in
    let two : a ++ ((c ++ b) ++ d) ≡ (a ++ c) ++ (b ++ d) = ap (λ l. a ++ l) (append_assoc c b d) ∙ sym (append_assoc a c (b ++ d)) in
    let moved : IsPermutation (a ++ ((b ++ c) ++ d)) (a ++ ((c ++ b) ++ d)) =
    IsPermutation-append_right a ((b ++ c) ++ d) ((c ++ b) ++ d) (IsPermutation-append_left d (b ++ c) (c ++ b) (IsPermutation-append_comm b c)) in
    subst (λ (l : List _). IsPermutation l ((a ++ c) ++ (b ++ d))) (sym one) (subst (λ (l : List _). IsPermutation (a ++ ((b ++ c) ++ d)) l) two moved)

flat_both : {X : Type 0} (a b : Kept → List X) (ks : List Kept) → IsPermutation (flat_map (λ k. a k ++ b k) ks) (flat_map a ks ++ flat_map b ks)
flat_both a b [] = IsPermutation-refl []
flat_both a b (k ∷ ks) =
    IsPermutation-trans ((a k ++ b k) ++ flat_map (λ x. a x ++ b x) ks) ((a k ++ b k) ++ (flat_map a ks ++ flat_map b ks)) ((a k ++ flat_map a ks) ++ (b k ++ flat_map b ks))
    (IsPermutation-append_right (a k ++ b k) (flat_map (λ x. a x ++ b x) ks) (flat_map a ks ++ flat_map b ks) (flat_both a b ks))
    (shuffle (a k) (b k) (flat_map a ks) (flat_map b ks))

flat_each : {X : Type 0} (P : Kept → Type 0) (f g : Kept → List X) → ((k : Kept) → P k → IsPermutation (f k) (g k)) → (ks : List Kept) → All P ks → IsPermutation (flat_map f ks) (flat_map g ks)
flat_each P f g each [] all = IsPermutation-refl []
flat_each P f g each (k ∷ ks) all =
    IsPermutation-append (f k) (g k) (flat_map f ks) (flat_map g ks) (each k (All-head P k ks all)) (flat_each P f g each ks (All-tail P k ks all))

flat_none : {X : Type 0} (ks : List Kept) → flat_map (λ (k : Kept). let none : List X = [] in none) ks ≡ []
flat_none [] = refl
flat_none (k ∷ ks) = flat_none ks

pub swapped : {X : Type 0} (a b c : List X) → IsPermutation (a ++ (b ++ c)) (b ++ (a ++ c))
swapped a b c =
    subst (λ (l : List _). IsPermutation l (b ++ (a ++ c))) (append_assoc a b c)
    (subst (IsPermutation ((a ++ b) ++ c)) (append_assoc b a c) (IsPermutation-append_left c (a ++ b) (b ++ a) (IsPermutation-append_comm a b)))

-- ---- each change is of one series

module _ {X : Type 0} (g : Kept → Change → List X) where
  -- what the first series of a change gives
  abbrev first_given : List Kept → Change → List X
  first_given [] c = []
  first_given (k ∷ kept) c = cond (is_change_of k c) (g k c) (first_given kept c)

  -- what each series of a change gives
  abbrev all_given : List Kept → Change → List X
  all_given kept c = flat_map (λ k. cond (is_change_of k c) (g k c) []) kept

  own_code : (k : Kept) (c : Change) → is_change_of k c ≡ true → c.definition * 16 + kind_index c.kind ≡ code k
  own_code k c is = by (eqb c.definition k.definition) refl (eqb (kind_index c.kind) (kind_index k.kind)) refl is
    where
      by : (a : Bool) → eqb c.definition k.definition ≡ a → (b : Bool) → eqb (kind_index c.kind) (kind_index k.kind) ≡ b → a && b ≡ true → c.definition * 16 + kind_index c.kind ≡ code k
      by true d true i h = omega (arith, eqb-true c.definition k.definition d, eqb-true (kind_index c.kind) (kind_index k.kind) i)
      by true d false i h = cc
      by false d true i h = cc
      by false d false i h = cc

  none_later : (k : Kept) (c : Change) (kept : List Kept) → c.definition * 16 + kind_index c.kind ≡ code k → Above (code k) (map code kept) → all_given kept c ≡ []
  none_later k c [] is above = refl
  none_later k c (l ∷ kept) is above = by (is_change_of l c) refl (none_later k c kept is above.1)
    where
      by : (b : Bool) → is_change_of l c ≡ b → all_given kept c ≡ [] → cond (is_change_of l c) (g l c) [] ++ all_given kept c ≡ []
      by true own rest = absurd (omega (arith, own_code l c own, is, above.0))
      by false own rest = ap (λ t. cond t (g l c) [] ++ all_given kept c) own ∙ rest

  one_given : (kept : List Kept) (c : Change) → Rises (map code kept) → all_given kept c ≡ first_given kept c
  one_given [] c rises = refl
  one_given (k ∷ kept) c rises = by (is_change_of k c) refl (one_given kept c rises.1)
    where
      by : (b : Bool) → is_change_of k c ≡ b → all_given kept c ≡ first_given kept c → cond (is_change_of k c) (g k c) [] ++ all_given kept c ≡ cond (is_change_of k c) (g k c) (first_given kept c)
      by true own rest =
          ap (λ t. cond t (g k c) [] ++ all_given kept c) own
          ∙ ap (λ l. g k c ++ l) (none_later k c kept (own_code k c own) rises.0)
          ∙ append-nil (g k c)
          ∙ sym (ap (λ t. cond t (g k c) (first_given kept c)) own)
      by false own rest =
          ap (λ t. cond t (g k c) [] ++ all_given kept c) own ∙ rest ∙ sym (ap (λ t. cond t (g k c) (first_given kept c)) own)

  -- the changes of each series are all changes, where each gives what its first series gives
  parts : (kept : List Kept) (f : Change → List X) (changes : List Change) → All (λ c. all_given kept c ≡ f c) changes → IsPermutation (flat_map (λ k. flat_map (g k) (filter (is_change_of k) changes)) kept) (flat_map f changes)
  parts kept f [] all = subst (λ (l : List X). IsPermutation l []) (sym (flat_none kept)) (IsPermutation-refl [])
  parts kept f (c ∷ changes) all =
      let rest : Kept → List X = λ k. flat_map (g k) (filter (is_change_of k) changes) in
      let mine : Kept → List X = λ k. cond (is_change_of k c) (g k c) [] in
      let both : flat_map (λ k. flat_map (g k) (filter (is_change_of k) (c ∷ changes))) kept ≡ flat_map (λ k. mine k ++ rest k) kept = each kept in
      subst (λ (l : List X). IsPermutation l (f c ++ flat_map f changes)) (sym both)
      (IsPermutation-trans (flat_map (λ k. mine k ++ rest k) kept) (flat_map mine kept ++ flat_map rest kept) (f c ++ flat_map f changes)
      (flat_both mine rest kept)
      (subst (λ (l : List X). IsPermutation (l ++ flat_map rest kept) (f c ++ flat_map f changes)) (sym (All-head (λ x. all_given kept x ≡ f x) c changes all))
      (IsPermutation-append_right (f c) (flat_map rest kept) (flat_map f changes) (parts kept f changes (All-tail (λ x. all_given kept x ≡ f x) c changes all)))))
    where
      one : (b : Bool) (k : Kept) → flat_map (g k) (cond b (c ∷ filter (is_change_of k) changes) (filter (is_change_of k) changes)) ≡ cond b (g k c) [] ++ flat_map (g k) (filter (is_change_of k) changes)
      one true k = refl
      one false k = refl

      each : (ks : List Kept) → flat_map (λ k. flat_map (g k) (filter (is_change_of k) (c ∷ changes))) ks ≡ flat_map (λ k. cond (is_change_of k c) (g k c) [] ++ flat_map (g k) (filter (is_change_of k) changes)) ks
      each [] = refl
      each (k ∷ ks) = ap (λ l. l ++ flat_map (λ x. flat_map (g x) (filter (is_change_of x) (c ∷ changes))) ks) (one (is_change_of k c) k) ∙ ap (λ l. (cond (is_change_of k c) (g k c) [] ++ flat_map (g k) (filter (is_change_of k) changes)) ++ l) (each ks)

-- ---- the splits of one series

abbrev pub key_of_change : Change → ℕ
key_of_change c = c.key

-- a split is changed
abbrev touched : List Change → Stored → Bool
touched changes s = list_any (λ c. eqb c.key s.key) changes

abbrev untouched : List Change → Stored → Bool
untouched changes s = not (touched changes s)

abbrev puts : List Change → List Stored
puts changes = flat_map (λ c. stored_or_gone c.key c.block) changes

-- a key before those of changes
early : (s : Stored) (changes : List Change) → Above s.key (map key_of_change changes) → touched changes s ≡ false
early s [] above = refl
early s (c ∷ changes) above =
    let apart : eqb c.key s.key ≡ false = ne_eqb c.key s.key (λ same. absurd (omega (arith, same, above.0))) in
    rw apart (early s changes above.1)

early_key : (s : Stored) (k : ℕ) (changes : List Change) → k ≡ s.key → Above k (map key_of_change changes) → touched changes s ≡ false
early_key s k changes same above = early s changes (subst (λ (n : ℕ). Above n (map key_of_change changes)) same above)

-- an item passes one test of two, and then a third one too, or none of the three
abbrev IsParted : Bool → Bool → Bool → Type 0
IsParted p q r =
    ((p ≡ true) × (q ≡ false) × (r ≡ true)) ⊎ (((p ≡ false) × (q ≡ true) × (r ≡ true)) ⊎ ((p ≡ false) × (q ≡ false) × (r ≡ false)))

parted : (p q r : Stored → Bool) → ((s : Stored) → IsParted (p s) (q s) (r s)) → (xs : List Stored) → IsPermutation (filter p xs ++ filter q xs) (filter r xs)
parted p q r cases [] = IsPermutation-refl []
parted p q r cases (x ∷ xs) = by (parted p q r cases xs)
  where
    by : IsPermutation (filter p xs ++ filter q xs) (filter r xs) → IsPermutation (filter p (x ∷ xs) ++ filter q (x ∷ xs)) (filter r (x ∷ xs))
    by rest =
        ⊎_elim
        (λ one. rw (filter-keep p x xs one.0, filter-skip q x xs one.1, filter-keep r x xs one.2) (IsPermutation-cons x (filter p xs ++ filter q xs) (filter r xs) rest))
        (λ other. ⊎_elim
        (λ two. rw (filter-skip p x xs two.0, filter-keep q x xs two.1, filter-keep r x xs two.2)
        (IsPermutation-trans (filter p xs ++ x ∷ filter q xs) (x ∷ (filter p xs ++ filter q xs)) (x ∷ filter r xs) (IsPermutation-middle (filter p xs) x (filter q xs)) (IsPermutation-cons x (filter p xs ++ filter q xs) (filter r xs) rest)))
        (λ none. rw (filter-skip p x xs none.0, filter-skip q x xs none.1, filter-skip r x xs none.2) rest)
        other)
        (cases x)

filter_filter : (p q : Stored → Bool) (xs : List Stored) → filter p (filter q xs) ≡ filter (λ s. q s && p s) xs
filter_filter p q [] = refl
filter_filter p q (x ∷ xs) = by (q x) (p x) refl refl (filter_filter p q xs)
  where
    by : (a b : Bool) → q x ≡ a → p x ≡ b → filter p (filter q xs) ≡ filter (λ s. q s && p s) xs → filter p (filter q (x ∷ xs)) ≡ filter (λ s. q s && p s) (x ∷ xs)
    by true true a b rest =
        ap (filter p) (filter-keep q x xs a) ∙ filter-keep p x (filter q xs) b ∙ ap (λ l. x ∷ l) rest
        ∙ sym (filter-keep (λ s. q s && p s) x xs (both a b))
      where
        both : q x ≡ true → p x ≡ true → q x && p x ≡ true
        both a b = rw (a, b) refl
    by true false a b rest =
        ap (filter p) (filter-keep q x xs a) ∙ filter-skip p x (filter q xs) b ∙ rest
        ∙ sym (filter-skip (λ s. q s && p s) x xs (rw (a, b) refl))
    by false b a c rest =
        ap (filter p) (filter-skip q x xs a) ∙ rest ∙ sym (filter-skip (λ s. q s && p s) x xs (rw a refl))

-- the splits of before that a change of this key leaves, but for those of other changes
around_key : (c : Change) (changes : List Change) (splits : List Stored) → Above c.key (map key_of_change changes) → IsPermutation (filter (untouched changes) (filter (λ s. ltb s.key c.key) splits) ++ filter (untouched changes) (filter (λ s. ltb c.key s.key) splits)) (filter (untouched (c ∷ changes)) splits)
around_key c changes splits above =
    subst (λ (l : List Stored). IsPermutation (l ++ filter (untouched changes) (filter (λ s. ltb c.key s.key) splits)) (filter (untouched (c ∷ changes)) splits)) (sym (filter_filter (untouched changes) (λ s. ltb s.key c.key) splits))
    (subst (λ (l : List Stored). IsPermutation (filter (λ s. ltb s.key c.key && untouched changes s) splits ++ l) (filter (untouched (c ∷ changes)) splits)) (sym (filter_filter (untouched changes) (λ s. ltb c.key s.key) splits))
    (parted (λ s. ltb s.key c.key && untouched changes s) (λ s. ltb c.key s.key && untouched changes s) (untouched (c ∷ changes)) each splits))
  where
    each : (s : Stored) → IsParted (ltb s.key c.key && untouched changes s) (ltb c.key s.key && untouched changes s) (untouched (c ∷ changes) s)
    each s =
        ⊎_elim
        (λ same. inr (inr (rw (le-ltb s.key c.key (omega (arith, same))) refl, rw (le-ltb c.key s.key (omega (arith, same))) refl, rw (eq-eqb c.key s.key (sym same)) refl)))
        (λ apart. ⊎_elim
        (λ lt. low lt (untouched changes s) refl)
        (λ ge. high (omega (arith, ge, apart)) (untouched changes s) refl)
        (cases_lt s.key c.key))
        (cases_eq s.key c.key)
      where
        low : s.key < c.key → (b : Bool) → untouched changes s ≡ b → IsParted (ltb s.key c.key && untouched changes s) (ltb c.key s.key && untouched changes s) (untouched (c ∷ changes) s)
        low lt true is = inl (rw (lt-ltb s.key c.key lt, is) refl, rw (le-ltb c.key s.key (omega (arith, lt))) refl, rw (ne_eqb c.key s.key (λ e. absurd (omega (arith, e, lt))), is) refl)
        low lt false is = inr (inr (rw (lt-ltb s.key c.key lt, is) refl, rw (le-ltb c.key s.key (omega (arith, lt))) refl, rw (ne_eqb c.key s.key (λ e. absurd (omega (arith, e, lt))), is) refl))

        high : c.key < s.key → (b : Bool) → untouched changes s ≡ b → IsParted (ltb s.key c.key && untouched changes s) (ltb c.key s.key && untouched changes s) (untouched (c ∷ changes) s)
        high gt true is = inr (inl (rw (le-ltb s.key c.key (omega (arith, gt))) refl, rw (lt-ltb c.key s.key gt, is) refl, rw (ne_eqb c.key s.key (λ e. absurd (omega (arith, e, gt))), is) refl))
        high gt false is = inr (inr (rw (le-ltb s.key c.key (omega (arith, gt))) refl, rw (lt-ltb c.key s.key gt, is) refl, rw (ne_eqb c.key s.key (λ e. absurd (omega (arith, e, gt))), is) refl))

-- what stays of the splits of one series, and what is put
turned_splits : (changes : List Change) (splits : List Stored) → Rises (map key_of_change changes) → IsPermutation (after_moves (map move_of changes) splits) (puts changes ++ filter (untouched changes) splits)
turned_splits [] splits rises = subst (IsPermutation splits) (sym (all_stay splits)) (IsPermutation-refl splits)
  where
    all_stay : (xs : List Stored) → filter (untouched []) xs ≡ xs
    all_stay [] = refl
    all_stay (x ∷ xs) = ap (λ l. x ∷ l) (all_stay xs)
turned_splits (c ∷ changes) splits rises =
    let low = filter (λ (s : Stored). ltb s.key c.key) splits in
    let high = filter (λ (s : Stored). ltb c.key s.key) splits in
    let own = stored_or_gone c.key c.block in
    let stay = untouched changes in
    let kept : filter stay (low ++ (own ++ high)) ≡ filter stay low ++ (own ++ filter stay high) =
    filter-append stay low (own ++ high) ∙ ap (λ l. filter stay low ++ l) (filter-append stay own high ∙ ap (λ l. l ++ filter stay high) (own_stays c.block)) in
    let moved : IsPermutation (filter stay low ++ (own ++ filter stay high)) (own ++ filter (untouched (c ∷ changes)) splits) =
    IsPermutation-trans (filter stay low ++ (own ++ filter stay high)) (own ++ (filter stay low ++ filter stay high)) (own ++ filter (untouched (c ∷ changes)) splits)
    (swapped (filter stay low) own (filter stay high))
    (IsPermutation-append_right own (filter stay low ++ filter stay high) (filter (untouched (c ∷ changes)) splits) (around_key c changes splits rises.0)) in
    IsPermutation-trans (after_moves (map move_of changes) (low ++ (own ++ high))) (puts changes ++ filter stay (low ++ (own ++ high))) ((own ++ puts changes) ++ filter (untouched (c ∷ changes)) splits)
    (turned_splits changes (low ++ (own ++ high)) rises.1)
    (subst (λ (l : List Stored). IsPermutation (puts changes ++ l) ((own ++ puts changes) ++ filter (untouched (c ∷ changes)) splits)) (sym kept)
    (IsPermutation-trans (puts changes ++ (filter stay low ++ (own ++ filter stay high))) (puts changes ++ (own ++ filter (untouched (c ∷ changes)) splits)) ((own ++ puts changes) ++ filter (untouched (c ∷ changes)) splits)
    (IsPermutation-append_right (puts changes) (filter stay low ++ (own ++ filter stay high)) (own ++ filter (untouched (c ∷ changes)) splits) moved)
    (subst (IsPermutation (puts changes ++ (own ++ filter (untouched (c ∷ changes)) splits))) (sym (append_assoc own (puts changes) (filter (untouched (c ∷ changes)) splits))) (swapped (puts changes) own (filter (untouched (c ∷ changes)) splits)))))
  where
    own_stays : (block : Option Block) → filter (untouched changes) (stored_or_gone c.key block) ≡ stored_or_gone c.key block
    own_stays None = refl
    own_stays (Some b) = filter-keep (untouched changes) (record { key = c.key; block = b }) [] (ap not (early (record { key = c.key; block = b }) changes rises.0))

-- the splits that changes move away from or drop
abbrev block_at : Stored → Block
block_at s = s.block

found_first : (k : ℕ) (splits : List Stored) → Rises (map (λ (s : Stored). s.key) splits) → map block_at (filter (λ s. eqb k s.key) splits) ≡ option_to_list (block_of k splits)
found_first k [] rises = refl
found_first k (s ∷ splits) rises =
    ⊎_elim
    (λ same.
    ap (map block_at) (filter-keep (λ x. eqb k x.key) s splits (eq-eqb k s.key same) ∙ ap (λ l. s ∷ l) (none splits (subst (λ (n : ℕ). Above n (map (λ (x : Stored). x.key) splits)) (sym same) rises.0)))
    ∙ sym (ap option_to_list (ap (λ b. cond b (Some s.block) (block_of k splits)) (eq-eqb s.key k (sym same)))))
    (λ apart.
    ap (map block_at) (filter-skip (λ x. eqb k x.key) s splits (ne_eqb k s.key apart))
    ∙ found_first k splits rises.1
    ∙ sym (ap option_to_list (ap (λ b. cond b (Some s.block) (block_of k splits)) (ne_eqb s.key k (λ same. apart (sym same))))))
    (cases_eq k s.key)
  where
    none : (xs : List Stored) → Above k (map (λ (x : Stored). x.key) xs) → filter (λ x. eqb k x.key) xs ≡ []
    none [] above = refl
    none (x ∷ xs) above = filter-skip (λ y. eqb k y.key) x xs (ne_eqb k x.key (λ same. absurd (omega (arith, same, above.0)))) ∙ none xs above.1

freed_splits : (changes : List Change) (splits : List Stored) → Rises (map key_of_change changes) → Rises (map (λ (s : Stored). s.key) splits) → IsPermutation (map block_at (filter (touched changes) splits)) (flat_map (λ c. option_to_list (block_of c.key splits)) changes)
freed_splits [] splits rises keys = subst (λ (l : List Block). IsPermutation l []) (sym (ap (map block_at) (none splits))) (IsPermutation-refl [])
  where
    none : (xs : List Stored) → filter (touched []) xs ≡ []
    none [] = refl
    none (x ∷ xs) = none xs
freed_splits (c ∷ changes) splits rises keys =
    let mine = filter (λ (s : Stored). eqb c.key s.key) splits in
    let others = filter (touched changes) splits in
    let both : IsPermutation (mine ++ others) (filter (touched (c ∷ changes)) splits) = parted (λ s. eqb c.key s.key) (touched changes) (touched (c ∷ changes)) each splits in
    let blocks : IsPermutation (map block_at (filter (touched (c ∷ changes)) splits)) (map block_at mine ++ map block_at others) =
    subst (IsPermutation (map block_at (filter (touched (c ∷ changes)) splits))) (map-append block_at mine others) (IsPermutation-map block_at (filter (touched (c ∷ changes)) splits) (mine ++ others) (IsPermutation-sym (mine ++ others) (filter (touched (c ∷ changes)) splits) both)) in
    IsPermutation-trans (map block_at (filter (touched (c ∷ changes)) splits)) (map block_at mine ++ map block_at others) (option_to_list (block_of c.key splits) ++ flat_map (λ x. option_to_list (block_of x.key splits)) changes)
    blocks
    (subst (λ (l : List Block). IsPermutation (map block_at mine ++ map block_at others) (l ++ flat_map (λ x. option_to_list (block_of x.key splits)) changes)) (found_first c.key splits keys)
    (IsPermutation-append_right (map block_at mine) (map block_at others) (flat_map (λ x. option_to_list (block_of x.key splits)) changes) (freed_splits changes splits rises.1 keys)))
  where
    each : (s : Stored) → IsParted (eqb c.key s.key) (touched changes s) (touched (c ∷ changes) s)
    each s =
        ⊎_elim
        (λ same. inl (eq-eqb c.key s.key same, early_key s c.key changes same rises.0, rw (eq-eqb c.key s.key same) refl))
        (λ apart. other apart (touched changes s) refl)
        (cases_eq c.key s.key)
      where
        other : (c.key ≡ s.key → ⊥) → (b : Bool) → touched changes s ≡ b → IsParted (eqb c.key s.key) (touched changes s) (touched (c ∷ changes) s)
        other apart true is = inr (inl (ne_eqb c.key s.key apart, is, rw (ne_eqb c.key s.key apart, is) refl))
        other apart false is = inr (inr (ne_eqb c.key s.key apart, is, rw (ne_eqb c.key s.key apart, is) refl))

-- ---- the changes of one series by rising key

own_rising : (k : Kept) (changes : List Change) → AllPairs ComesBefore changes → Rises (map key_of_change (filter (is_change_of k) changes))
own_rising k [] order = tt
own_rising k (c ∷ changes) order = by (is_change_of k c) refl (own_rising k changes (pairs-tail ComesBefore c changes order))
  where
    own : (x : Change) → is_change_of k x ≡ true → (x.definition ≡ k.definition) × (kind_index x.kind ≡ kind_index k.kind)
    own x is = split (eqb x.definition k.definition) refl (eqb (kind_index x.kind) (kind_index k.kind)) refl is
      where
        split : (a : Bool) → eqb x.definition k.definition ≡ a → (b : Bool) → eqb (kind_index x.kind) (kind_index k.kind) ≡ b → a && b ≡ true → (x.definition ≡ k.definition) × (kind_index x.kind ≡ kind_index k.kind)
        split true d true i h = (eqb-true x.definition k.definition d, eqb-true (kind_index x.kind) (kind_index k.kind) i)
        split true d false i h = cc
        split false d true i h = cc
        split false d false i h = cc

    before : (x : Change) → is_change_of k c ≡ true → is_change_of k x ≡ true → ComesBefore c x → c.key < x.key
    before x a b order =
        let m = own c a in
        let n = own x b in
        ⊎_elim (λ lt. absurd (omega (arith, lt, m.0, n.0))) (λ same. ⊎_elim (λ lt. absurd (omega (arith, lt, m.1, n.1))) (λ is. is.1) same.1) order

    above : (xs : List Change) → is_change_of k c ≡ true → All (ComesBefore c) xs → Above c.key (map key_of_change (filter (is_change_of k) xs))
    above [] a all = tt
    above (x ∷ xs) a all = one (is_change_of k x) refl (above xs a (All-tail (ComesBefore c) x xs all))
      where
        one : (b : Bool) → is_change_of k x ≡ b → Above c.key (map key_of_change (filter (is_change_of k) xs)) → Above c.key (map key_of_change (filter (is_change_of k) (x ∷ xs)))
        one true b rest = subst (λ (l : List Change). Above c.key (map key_of_change l)) (sym (filter-keep (is_change_of k) x xs b)) (before x a b (All-head (ComesBefore c) x xs all), rest)
        one false b rest = subst (λ (l : List Change). Above c.key (map key_of_change l)) (sym (filter-skip (is_change_of k) x xs b)) rest

    by : (b : Bool) → is_change_of k c ≡ b → Rises (map key_of_change (filter (is_change_of k) changes)) → Rises (map key_of_change (filter (is_change_of k) (c ∷ changes)))
    by true is rest = subst (λ (l : List Change). Rises (map key_of_change l)) (sym (filter-keep (is_change_of k) c changes is)) (above changes is (pairs-head ComesBefore c changes order), rest)
    by false is rest = subst (λ (l : List Change). Rises (map key_of_change l)) (sym (filter-skip (is_change_of k) c changes is)) rest

-- ---- a metric's blocks

abbrev own_of : List Change → Kept → List Change
own_of changes k = filter (is_change_of k) changes

-- the blocks that stay
abbrev pub blocks_kept : List Change → List Kept → List Block
blocks_kept changes kept = flat_map (λ k. map block_at (filter (untouched (own_of changes k)) k.splits)) kept

abbrev RisesIn : Kept → Type 0
RisesIn k = Rises (map (λ (s : Stored). s.key) k.splits)

blocks_put_by : (changes : List Change) → map block_at (puts changes) ≡ flat_map (λ c. option_to_list c.block) changes
blocks_put_by [] = refl
blocks_put_by (c ∷ changes) =
    map-append block_at (stored_or_gone c.key c.block) (puts changes)
    ∙ ap (λ l. l ++ map block_at (puts changes)) (one c.block)
    ∙ ap (λ l. option_to_list c.block ++ l) (blocks_put_by changes)
  where
    one : (b : Option Block) → map block_at (stored_or_gone c.key b) ≡ option_to_list b
    one None = refl
    one (Some b) = refl

-- what a change finds of a series
abbrev found_in : Kept → Change → List Block
found_in k c = option_to_list (block_of c.key k.splits)

found_where : (kept : List Kept) (c : Change) → first_given found_in kept c ≡ option_to_list (block_of c.key (splits_of c.definition c.kind kept))
found_where [] c = refl
found_where (k ∷ kept) c =
    let same : is_change_of k c ≡ is_series_of c.definition c.kind k = both (eqb_flip c.definition k.definition) (eqb_flip (kind_index c.kind) (kind_index k.kind)) in
    ap (λ b. cond b (found_in k c) (first_given found_in kept c)) same
    ∙ by (is_series_of c.definition c.kind k) (found_where kept c)
  where
    eqb_flip : (x y : ℕ) → eqb x y ≡ eqb y x
    eqb_flip x y = ⊎_elim (λ e. eq-eqb x y e ∙ sym (eq-eqb y x (sym e))) (λ apart. ne_eqb x y apart ∙ sym (ne_eqb y x (λ e. apart (sym e)))) (cases_eq x y)

    both : {a b c d : Bool} → a ≡ c → b ≡ d → a && b ≡ c && d
    both e f = cc

    by : (b : Bool) → first_given found_in kept c ≡ option_to_list (block_of c.key (splits_of c.definition c.kind kept)) → cond b (found_in k c) (first_given found_in kept c) ≡ option_to_list (block_of c.key (cond b k.splits (splits_of c.definition c.kind kept)))
    by true rest = refl
    by false rest = rest

-- a change puts its block into one series
abbrev put_in : Kept → Change → List Block
put_in k c = option_to_list c.block

abbrev pub has_series : List Kept → Change → Bool
has_series kept c = list_any (λ k. is_change_of k c) kept

put_where : (kept : List Kept) (c : Change) → has_series kept c ≡ true → first_given put_in kept c ≡ option_to_list c.block
put_where [] c has = cc
put_where (k ∷ kept) c has = by (is_change_of k c) refl (put_where kept c)
  where
    by : (b : Bool) → is_change_of k c ≡ b → (has_series kept c ≡ true → first_given put_in kept c ≡ option_to_list c.block) → cond (is_change_of k c) (option_to_list c.block) (first_given put_in kept c) ≡ option_to_list c.block
    by true is rest = ap (λ b. cond b (option_to_list c.block) (first_given put_in kept c)) is
    by false is rest =
        let there : has_series kept c ≡ true = sym (ap (λ b. b || has_series kept c) is) ∙ has in
        ap (λ b. cond b (option_to_list c.block) (first_given put_in kept c)) is ∙ rest there

module _ (kept : List Kept) (changes : List Change) (codes : Rises (map code kept)) (order : AllPairs ComesBefore changes) where
  -- the blocks of before are those that are freed and those that stay
  pub blocks_before : All RisesIn kept → IsPermutation (blocks_of_kept kept) (flat_map (λ c. option_to_list (block_of c.key (splits_of c.definition c.kind kept))) changes ++ blocks_kept changes kept)
  blocks_before rising =
      let free : Kept → List Block = λ k. flat_map (found_in k) (own_of changes k) in
      let stay : Kept → List Block = λ k. map block_at (filter (untouched (own_of changes k)) k.splits) in
      let each : IsPermutation (blocks_of_kept kept) (flat_map (λ k. free k ++ stay k) kept) =
      flat_each RisesIn (λ k. map block_at k.splits) (λ k. free k ++ stay k) one kept rising in
      IsPermutation-trans (blocks_of_kept kept) (flat_map (λ k. free k ++ stay k) kept) (flat_map (λ c. option_to_list (block_of c.key (splits_of c.definition c.kind kept))) changes ++ blocks_kept changes kept)
      each
      (IsPermutation-trans (flat_map (λ k. free k ++ stay k) kept) (flat_map free kept ++ flat_map stay kept) (flat_map (λ c. option_to_list (block_of c.key (splits_of c.definition c.kind kept))) changes ++ blocks_kept changes kept)
      (flat_both free stay kept)
      (IsPermutation-append_left (flat_map stay kept) (flat_map free kept) (flat_map (λ c. option_to_list (block_of c.key (splits_of c.definition c.kind kept))) changes)
      (parts found_in kept (λ c. option_to_list (block_of c.key (splits_of c.definition c.kind kept))) changes (λ i d lt. one_given found_in kept (get_or changes i d) codes ∙ found_where kept (get_or changes i d)))))
    where
      one : (k : Kept) → RisesIn k → IsPermutation (map block_at k.splits) (flat_map (found_in k) (own_of changes k) ++ map block_at (filter (untouched (own_of changes k)) k.splits))
      one k rises =
          let own = own_of changes k in
          let halves = IsPermutation-map block_at k.splits (filter (touched own) k.splits ++ filter (untouched own) k.splits) (IsPermutation-filter_both (touched own) (untouched own) (λ x. refl) k.splits) in
          IsPermutation-trans (map block_at k.splits) (map block_at (filter (touched own) k.splits) ++ map block_at (filter (untouched own) k.splits)) (flat_map (found_in k) own ++ map block_at (filter (untouched own) k.splits))
          (subst (IsPermutation (map block_at k.splits)) (map-append block_at (filter (touched own) k.splits) (filter (untouched own) k.splits)) halves)
          (IsPermutation-append_left (map block_at (filter (untouched own) k.splits)) (map block_at (filter (touched own) k.splits)) (flat_map (found_in k) own) (freed_splits own k.splits (own_rising k changes order) rises))

  -- those behind it are the new ones and those that stay
  pub blocks_behind : All (λ c. has_series kept c ≡ true) changes → IsPermutation (blocks_of_kept (map (kept_after changes) kept)) (blocks_of_changes changes ++ blocks_kept changes kept)
  blocks_behind has =
      let new : Kept → List Block = λ k. flat_map (put_in k) (own_of changes k) in
      let stay : Kept → List Block = λ k. map block_at (filter (untouched (own_of changes k)) k.splits) in
      let same : blocks_of_kept (map (kept_after changes) kept) ≡ flat_map (λ k. map block_at (after_moves (map move_of (own_of changes k)) k.splits)) kept =
      flat_map-map (λ (k : Kept). map block_at k.splits) (kept_after changes) kept in
      subst (λ (l : List Block). IsPermutation l (blocks_of_changes changes ++ blocks_kept changes kept)) (sym same)
      (IsPermutation-trans (flat_map (λ k. map block_at (after_moves (map move_of (own_of changes k)) k.splits)) kept) (flat_map (λ k. new k ++ stay k) kept) (blocks_of_changes changes ++ blocks_kept changes kept)
      (flat_each (λ k. Unit {0}) (λ k. map block_at (after_moves (map move_of (own_of changes k)) k.splits)) (λ k. new k ++ stay k) one kept (λ i d lt. tt))
      (IsPermutation-trans (flat_map (λ k. new k ++ stay k) kept) (flat_map new kept ++ flat_map stay kept) (blocks_of_changes changes ++ blocks_kept changes kept)
      (flat_both new stay kept)
      (IsPermutation-append_left (flat_map stay kept) (flat_map new kept) (blocks_of_changes changes)
      (parts put_in kept (λ c. option_to_list c.block) changes (λ i d lt. one_given put_in kept (get_or changes i d) codes ∙ put_where kept (get_or changes i d) (has i d lt))))))
    where
      one : (k : Kept) → Unit {0} → IsPermutation (map block_at (after_moves (map move_of (own_of changes k)) k.splits)) (flat_map (put_in k) (own_of changes k) ++ map block_at (filter (untouched (own_of changes k)) k.splits))
      one k u =
          let own = own_of changes k in
          subst (IsPermutation (map block_at (after_moves (map move_of own) k.splits))) (map-append block_at (puts own) (filter (untouched own) k.splits) ∙ ap (λ l. l ++ map block_at (filter (untouched own) k.splits)) (blocks_put_by own))
          (IsPermutation-map block_at (after_moves (map move_of own) k.splits) (puts own ++ filter (untouched own) k.splits) (turned_splits own k.splits (own_rising k changes order)))

-- ---- a change of the policy has a series

any_append : {X : Type 0} (p : X → Bool) (xs ys : List X) → list_any p xs ≡ true → list_any p (xs ++ ys) ≡ true
any_append p [] ys is = cc
any_append p (x ∷ xs) ys is = by (p x) (any_append p xs ys) is
  where
    by : (b : Bool) → (list_any p xs ≡ true → list_any p (xs ++ ys) ≡ true) → b || list_any p xs ≡ true → b || list_any p (xs ++ ys) ≡ true
    by true rest is = refl
    by false rest is = rest is

any_behind : {X : Type 0} (p : X → Bool) (xs ys : List X) → list_any p ys ≡ true → list_any p (xs ++ ys) ≡ true
any_behind p [] ys is = is
any_behind p (x ∷ xs) ys is = by (p x) (any_behind p xs ys is)
  where
    by : (b : Bool) → list_any p (xs ++ ys) ≡ true → b || list_any p (xs ++ ys) ≡ true
    by true rest = refl
    by false rest = rest

own_kind : (place : ℕ) (c : Change) (kinds : List Kind) → c.definition ≡ place → is_among kinds c.kind ≡ true → has_series (map (none_of place) kinds) c ≡ true
own_kind place c [] is among = cc
own_kind place c (k ∷ kinds) is among = by (eqb (kind_index k) (kind_index c.kind)) refl (own_kind place c kinds is) among
  where
    by : (b : Bool) → eqb (kind_index k) (kind_index c.kind) ≡ b → (is_among kinds c.kind ≡ true → has_series (map (none_of place) kinds) c ≡ true) → eqb (kind_index k) (kind_index c.kind) || is_among kinds c.kind ≡ true → has_series (map (none_of place) (k ∷ kinds)) c ≡ true
    by true i rest any =
        let own : is_change_of (none_of place k) c ≡ true = rw (eq-eqb c.definition place is, eq-eqb (kind_index c.kind) (kind_index k) (sym (eqb-true (kind_index k) (kind_index c.kind) i))) refl in
        ap (λ b. b || has_series (map (none_of place) kinds) c) own
    by false i rest any =
        let other : is_change_of (none_of place k) c ≡ false = rw (eq-eqb c.definition place is) (ne_eqb (kind_index c.kind) (kind_index k) (λ e. both_ways (eqb (kind_index k) (kind_index c.kind)) i (eq-eqb (kind_index k) (kind_index c.kind) (sym e)))) in
        ap (λ b. b || has_series (map (none_of place) kinds) c) other ∙ rest (sym (ap (λ b. b || is_among kinds c.kind) i) ∙ any)

layout_has : (kinds : List Kind) (place e : ℕ) (ds : List Definition) (c : Change) → c.definition ≡ place + e → e < length ds → is_among kinds c.kind ≡ true → has_series (none_kept kinds place ds) c ≡ true
layout_has kinds place e [] c is below among = absurd (omega (arith, below))
layout_has kinds place zero (d ∷ ds) c is below among =
    any_append (λ k. is_change_of k c) (map (none_of place) kinds) (none_kept kinds (place + 1) ds) (own_kind place c kinds (omega (arith, is)) among)
layout_has kinds place (suc e) (d ∷ ds) c is below among =
    any_behind (λ k. is_change_of k c) (map (none_of place) kinds) (none_kept kinds (place + 1) ds) (layout_has kinds (place + 1) e ds c (omega (arith, is)) (omega (arith, below)) among)

has_emptied : (kept : List Kept) (c : Change) → has_series (map emptied kept) c ≡ has_series kept c
has_emptied [] c = refl
has_emptied (k ∷ kept) c = ap (λ b. is_change_of k c || b) (has_emptied kept c)

pub policy_has : (policy : ArchivePolicy) (kept : List Kept) (c : Change) → map emptied kept ≡ layout_of policy → IsOfPolicy policy c → has_series kept c ≡ true
policy_has policy kept c layout is =
    sym (has_emptied kept c) ∙ ap (λ ks. has_series ks c) layout
    ∙ layout_has policy.kinds 0 c.definition policy.definitions c (omega arith) (slice_get_within policy.definitions c.definition is.definition is.there) (is_among-from policy.kinds c.kind is.kind)

-- ---- a metric after a commit

-- what is there before is what is freed and what stays; what is there behind it is what is new and what stays
pub record IsMoved (before freed behind new : List Block) : Type 0 where
  pub stays : List Block
  pub old : IsPermutation before (freed ++ stays)
  pub then : IsPermutation behind (new ++ stays)

pub moved_metric : (m : Shelved) (c : CommitItem) → IsFiled m → AllPairs ComesBefore c.changes → All (IsOfPolicy m.policy) c.changes → IsMoved (blocks_of_metric m) (freed_blocks m c.changes) (blocks_of_metric (committed c m)) (new_blocks c)
moved_metric m c filed order policy =
    let layout : map code m.kept ≡ map code (layout_of m.policy) = sym (emptied_codes m.kept) ∙ ap (map code) filed.layout in
    let codes : Rises (map code m.kept) = subst Rises (sym layout) (layout_rises m.policy.kinds 0 m.policy.definitions (Rises_from_rising (map kind_index m.policy.kinds) filed.kinds.in_table_order)) in
    let rising : All RisesIn m.kept = λ i d lt. Rises_from_rising (map (λ (s : Stored). s.key) (get_or m.kept i d).splits) (filed.rising i d lt) in
    let has : All (λ x. has_series m.kept x ≡ true) c.changes = λ i d lt. policy_has m.policy m.kept (get_or c.changes i d) filed.layout (policy i d lt) in
    let stays = blocks_kept c.changes m.kept in
    record {
      stays = stays;
      old = subst (IsPermutation (m.chunks ++ blocks_of_kept m.kept)) (sym (append_assoc m.chunks (changed_blocks m c.changes) stays)) (IsPermutation-append_right m.chunks (blocks_of_kept m.kept) (changed_blocks m c.changes ++ stays) (blocks_before m.kept c.changes codes order rising));
      then = subst (IsPermutation (c.chunks ++ blocks_of_kept (map (kept_after c.changes) m.kept))) (sym (append_assoc c.chunks (blocks_of_changes c.changes) stays)) (IsPermutation-append_right c.chunks (blocks_of_kept (map (kept_after c.changes) m.kept)) (blocks_of_changes c.changes ++ stays) (blocks_behind m.kept c.changes codes order has));
    }

-- Splits that are stored, by the places of their keys.
use Rattle.std.proofs.Common.{◌≡◌, ◌≢◌, ℕ, zero, suc, ◌<◌, ◌≤◌, cond, ltb, List, [], ◌∷◌, ◌++◌, map, length, take, drop, set, get_or, Option, Some, None, refl, sym, ap, subst, ◌∙◌, append-nil, arith}
use Rattle.std.specs.List.{All, filter, slice_get}
use Rattle.std.specs.List.Sorted.{IsStrictlyIncreasing, IsNonDecreasingBy}
use Rattle.std.proofs.Math.Logic.{⊎_elim}
use Rattle.std.proofs.lemmas.Bool.{lt-ltb, le-ltb, eq-eqb, ne_eqb, cases_eq}
use Rattle.std.proofs.lemmas.List.{take-append-drop, length-take, length-map, set_split}
use Rattle.std.proofs.lemmas.Option.{none-some, same_Some}
use Rattle.std.proofs.lemmas.List.Elements.{All-cons, All-nil, All-head, All-tail, filter-append}
use Rattle.std.proofs.lemmas.List.Kept.{AllPairs-from_increasing}
use Rattle.series_model.proofs.ByKey.{filter-keep, filter-skip}
use Rattle.series_model.proofs.Rising.{Above, Above-lower, Rises, Rises_from_rising, rising_from_Rises}
use Rattle.gno_codec.specs.declared.item.Block.{Block}
use Rattle.shelf_records.specs.declared.series.Stored.{Stored}
use Rattle.shelf_records.specs.Series.{block_of, changed, stored_at, stored_or_gone}

abbrev pub key_of : Stored → ℕ
key_of s = s.key

-- numbers that rise strictly never fall
pub numbers_never_fall : (xs : List ℕ) → IsStrictlyIncreasing xs → IsNonDecreasingBy (λ (k : ℕ). k) xs
numbers_never_fall xs h i j d le below =
    ⊎_elim
    (λ same. let at : get_or xs i d ≡ get_or xs j d = ap (λ k. get_or xs k d) same in omega (arith, at))
    (λ apart. omega (arith, AllPairs-from_increasing xs h i j d (omega (arith, apart)) below))
    (cases_eq i j)

-- the keys of keys with their blocks
pub keys_stored : (keys : List ℕ) (blocks : List Block) → length keys ≡ length blocks → map key_of (stored_at keys blocks) ≡ keys
keys_stored [] blocks same = refl
keys_stored (k ∷ keys) [] same = absurd (omega (arith, same))
keys_stored (k ∷ keys) (b ∷ blocks) same = ap (λ l. k ∷ l) (keys_stored keys blocks (omega (arith, same)))

pub blocks_stored : (keys : List ℕ) (blocks : List Block) → length keys ≡ length blocks → map (λ (s : Stored). s.block) (stored_at keys blocks) ≡ blocks
blocks_stored [] [] same = refl
blocks_stored [] (b ∷ blocks) same = absurd (omega (arith, same))
blocks_stored (k ∷ keys) [] same = absurd (omega (arith, same))
blocks_stored (k ∷ keys) (b ∷ blocks) same = ap (λ l. b ∷ l) (blocks_stored keys blocks (omega (arith, same)))

pub length-stored : (keys : List ℕ) (blocks : List Block) → length keys ≡ length blocks → length (stored_at keys blocks) ≡ length keys
length-stored keys blocks same = sym (length-map (stored_at keys blocks) key_of) ∙ ap length (keys_stored keys blocks same)

-- what is between two places
pub stored_between : (first until : ℕ) (keys : List ℕ) (blocks : List Block) → stored_at (drop first (take until keys)) (drop first (take until blocks)) ≡ drop first (take until (stored_at keys blocks))
stored_between first until keys blocks = dropped first (take until keys) (take until blocks) ∙ ap (drop first) (taken until keys blocks)
  where
    taken : (n : ℕ) (keys : List ℕ) (blocks : List Block) → stored_at (take n keys) (take n blocks) ≡ take n (stored_at keys blocks)
    taken zero keys blocks = refl
    taken (suc n) [] blocks = refl
    taken (suc n) (k ∷ keys) [] = refl
    taken (suc n) (k ∷ keys) (b ∷ blocks) = ap (λ l. (record { key = k; block = b }) ∷ l) (taken n keys blocks)

    none : (keys : List ℕ) → stored_at keys [] ≡ []
    none [] = refl
    none (k ∷ keys) = refl

    dropped : (n : ℕ) (keys : List ℕ) (blocks : List Block) → stored_at (drop n keys) (drop n blocks) ≡ drop n (stored_at keys blocks)
    dropped zero keys blocks = refl
    dropped (suc n) [] blocks = refl
    dropped (suc n) (k ∷ keys) [] = none (drop n keys)
    dropped (suc n) (k ∷ keys) (b ∷ blocks) = dropped n keys blocks

-- splits of their keys and blocks
pub stored_again : (splits : List Stored) → stored_at (map key_of splits) (map (λ (s : Stored). s.block) splits) ≡ splits
stored_again [] = refl
stored_again (s ∷ splits) = ap (λ l. s ∷ l) (stored_again splits)

pub stored-append : (xs ys : List ℕ) (fs bs : List Block) → length xs ≡ length fs → stored_at (xs ++ ys) (fs ++ bs) ≡ stored_at xs fs ++ stored_at ys bs
stored-append [] ys [] bs same = refl
stored-append [] ys (f ∷ fs) bs same = absurd (omega (arith, same))
stored-append (x ∷ xs) ys [] bs same = absurd (omega (arith, same))
stored-append (x ∷ xs) ys (f ∷ fs) bs same = ap (λ l. (record { key = x; block = f }) ∷ l) (stored-append xs ys fs bs (omega (arith, same)))

-- keys before one are kept by one filter, and not by the other
all_before : (k : ℕ) (keys : List ℕ) (blocks : List Block) → All (λ x. x < k) keys → (filter (λ (s : Stored). ltb s.key k) (stored_at keys blocks) ≡ stored_at keys blocks) × (filter (λ (s : Stored). ltb k s.key) (stored_at keys blocks) ≡ [])
all_before k [] blocks all = (refl, refl)
all_before k (x ∷ keys) [] all = (refl, refl)
all_before k (x ∷ keys) (b ∷ blocks) all =
    let s : Stored = record { key = x; block = b } in
    let is = All-head (λ y. y < k) x keys all in
    let rest = all_before k keys blocks (All-tail (λ y. y < k) x keys all) in
    (filter-keep (λ (t : Stored). ltb t.key k) s (stored_at keys blocks) (lt-ltb x k is) ∙ ap (λ l. s ∷ l) rest.0, filter-skip (λ (t : Stored). ltb k t.key) s (stored_at keys blocks) (le-ltb k x (omega (arith, is))) ∙ rest.1)

all_behind : (k : ℕ) (keys : List ℕ) (blocks : List Block) → All (λ x. k < x) keys → (filter (λ (s : Stored). ltb s.key k) (stored_at keys blocks) ≡ []) × (filter (λ (s : Stored). ltb k s.key) (stored_at keys blocks) ≡ stored_at keys blocks)
all_behind k [] blocks all = (refl, refl)
all_behind k (x ∷ keys) [] all = (refl, refl)
all_behind k (x ∷ keys) (b ∷ blocks) all =
    let s : Stored = record { key = x; block = b } in
    let is = All-head (λ y. k < y) x keys all in
    let rest = all_behind k keys blocks (All-tail (λ y. k < y) x keys all) in
    (filter-skip (λ (t : Stored). ltb t.key k) s (stored_at keys blocks) (le-ltb x k (omega (arith, is))) ∙ rest.0, filter-keep (λ (t : Stored). ltb k t.key) s (stored_at keys blocks) (lt-ltb k x is) ∙ ap (λ l. s ∷ l) rest.1)

-- a change of splits of which so many are before its key, and the others behind it
pub change_between : (k : ℕ) (block : Option Block) (xs ys : List ℕ) (fs bs : List Block) → All (λ x. x < k) xs → All (λ y. k < y) ys
    → changed k block (stored_at xs fs ++ stored_at ys bs) ≡ stored_at xs fs ++ (stored_or_gone k block ++ stored_at ys bs)
change_between k block xs ys fs bs before behind =
    let front = stored_at xs fs in
    let rest = stored_at ys bs in
    let e = all_before k xs fs before in
    let l = all_behind k ys bs behind in
    ap (λ z. z ++ (stored_or_gone k block ++ filter (λ (s : Stored). ltb k s.key) (front ++ rest))) (filter-append (λ (s : Stored). ltb s.key k) front rest ∙ ap (λ z. z ++ filter (λ (s : Stored). ltb s.key k) rest) e.0 ∙ ap (λ z. front ++ z) l.0 ∙ append-nil front)
    ∙ ap (λ z. front ++ (stored_or_gone k block ++ z)) (filter-append (λ (s : Stored). ltb k s.key) front rest ∙ ap (λ z. z ++ filter (λ (s : Stored). ltb k s.key) rest) e.1 ∙ l.1)

-- the same where a split with this key stands between them
pub change_in_place : (k : ℕ) (old : Block) (block : Option Block) (xs ys : List ℕ) (fs bs : List Block) → All (λ x. x < k) xs → All (λ y. k < y) ys
    → changed k block (stored_at xs fs ++ (record { key = k; block = old }) ∷ stored_at ys bs) ≡ stored_at xs fs ++ (stored_or_gone k block ++ stored_at ys bs)
change_in_place k old block xs ys fs bs before behind =
    let s : Stored = record { key = k; block = old } in
    let front = stored_at xs fs in
    let rest = stored_at ys bs in
    let e = all_before k xs fs before in
    let l = all_behind k ys bs behind in
    let same = le-ltb k k (omega arith) in
    ap (λ z. z ++ (stored_or_gone k block ++ filter (λ (t : Stored). ltb k t.key) (front ++ s ∷ rest))) (filter-append (λ (t : Stored). ltb t.key k) front (s ∷ rest) ∙ ap (λ z. z ++ filter (λ (t : Stored). ltb t.key k) (s ∷ rest)) e.0 ∙ ap (λ z. front ++ z) (filter-skip (λ (t : Stored). ltb t.key k) s rest same ∙ l.0) ∙ append-nil front)
    ∙ ap (λ z. front ++ (stored_or_gone k block ++ z)) (filter-append (λ (t : Stored). ltb k t.key) front (s ∷ rest) ∙ ap (λ z. z ++ filter (λ (t : Stored). ltb k t.key) (s ∷ rest)) e.1 ∙ filter-skip (λ (t : Stored). ltb k t.key) s rest same ∙ l.1)

-- a split behind others with earlier keys is found where it stands
pub found_behind : (k : ℕ) (xs : List ℕ) (fs : List Block) (rest : List Stored) → All (λ x. x < k) xs → block_of k (stored_at xs fs ++ rest) ≡ block_of k rest
found_behind k [] fs rest before = refl
found_behind k (x ∷ xs) [] rest before = refl
found_behind k (x ∷ xs) (f ∷ fs) rest before =
    let is = All-head (λ y. y < k) x xs before in
    ap (λ b. cond b (Some f) (block_of k (stored_at xs fs ++ rest))) (ne_eqb x k (λ same. absurd (omega (arith, is, same))))
    ∙ found_behind k xs fs rest (All-tail (λ y. y < k) x xs before)

pub found_first : (k : ℕ) (b : Block) (rest : List Stored) → block_of k ((record { key = k; block = b }) ∷ rest) ≡ Some b
found_first k b rest = ap (λ t. cond t (Some b) (block_of k rest)) (eq-eqb k k refl)

pub not_found : (k : ℕ) (ys : List ℕ) (bs : List Block) → All (λ y. k < y) ys → block_of k (stored_at ys bs) ≡ None
not_found k [] bs behind = refl
not_found k (y ∷ ys) [] behind = refl
not_found k (y ∷ ys) (b ∷ bs) behind =
    let is = All-head (λ z. k < z) y ys behind in
    ap (λ t. cond t (Some b) (block_of k (stored_at ys bs))) (ne_eqb y k (λ same. absurd (omega (arith, is, same)))) ∙ not_found k ys bs (All-tail (λ z. k < z) y ys behind)

-- ---- what stands at a place

pub above_all : (k : ℕ) (xs : List ℕ) → Above k xs → All (λ x. k < x) xs
above_all k [] above = All-nil (λ x. k < x)
above_all k (x ∷ xs) above = All-cons (λ y. k < y) x xs above.0 (above_all k xs above.1)

pub all_above : (k : ℕ) (xs : List ℕ) → All (λ x. k < x) xs → Above k xs
all_above k [] all = tt
all_above k (x ∷ xs) all = (All-head (λ y. k < y) x xs all, all_above k xs (All-tail (λ y. k < y) x xs all))

pub Rises-drop : (n : ℕ) (xs : List ℕ) → Rises xs → Rises (drop n xs)
Rises-drop zero xs rises = rises
Rises-drop (suc n) [] rises = tt
Rises-drop (suc n) (x ∷ xs) rises = Rises-drop n xs rises.1

Above-between : (x k p : ℕ) (xs : List ℕ) → Above x xs → x < k → Above x (take p xs ++ k ∷ drop p xs)
Above-between x k zero xs above lt = (lt, above)
Above-between x k (suc p) [] above lt = (lt, tt)
Above-between x k (suc p) (y ∷ xs) above lt = (above.0, Above-between x k p xs above.1 lt)

-- keys with one more, in its place
pub Rises-insert : (k p : ℕ) (xs : List ℕ) → Rises xs → All (λ x. x < k) (take p xs) → All (λ x. k < x) (drop p xs) → Rises (take p xs ++ k ∷ drop p xs)
Rises-insert k zero xs rises before behind = (all_above k xs behind, rises)
Rises-insert k (suc p) [] rises before behind = (tt, tt)
Rises-insert k (suc p) (x ∷ xs) rises before behind =
    (Above-between x k p xs rises.0 (All-head (λ y. y < k) x (take p xs) before), Rises-insert k p xs rises.1 (All-tail (λ y. y < k) x (take p xs) before) behind)

Above-without : (x p : ℕ) (xs : List ℕ) → Above x xs → Above x (take p xs ++ drop (suc p) xs)
Above-without x zero [] above = tt
Above-without x zero (y ∷ xs) above = above.1
Above-without x (suc p) [] above = tt
Above-without x (suc p) (y ∷ xs) above = (above.0, Above-without x p xs above.1)

-- keys without one of them
pub Rises-remove : (p : ℕ) (xs : List ℕ) → Rises xs → Rises (take p xs ++ drop (suc p) xs)
Rises-remove zero [] rises = tt
Rises-remove zero (x ∷ xs) rises = rises.1
Rises-remove (suc p) [] rises = tt
Rises-remove (suc p) (x ∷ xs) rises = (Above-without x p xs rises.0, Rises-remove p xs rises.1)

-- keys from a place on, none of which is before k, and where k doesn't stand at the place
pub behind_absent : (k p : ℕ) (xs : List ℕ) → Rises xs → All (λ x. k ≤ x) (drop p xs) → slice_get xs p ≢ Some k → All (λ x. k < x) (drop p xs)
behind_absent k zero [] rises behind absent = All-nil (λ x. k < x)
behind_absent k zero (x ∷ xs) rises behind absent =
    let first : k < x = ⊎_elim (λ same. absurd (absent (ap Some same))) (λ apart. omega (arith, All-head (λ y. k ≤ y) x xs behind, apart)) (cases_eq x k) in
    All-cons (λ y. k < y) x xs first (above_all k xs (Above-lower k x xs (omega (arith, first)) rises.0))
behind_absent k (suc p) [] rises behind absent = All-nil (λ x. k < x)
behind_absent k (suc p) (x ∷ xs) rises behind absent = behind_absent k p xs rises.1 behind absent

-- where k stands at the place
pub behind_there : (k p : ℕ) (xs : List ℕ) → Rises xs → slice_get xs p ≡ Some k → (drop p xs ≡ k ∷ drop (suc p) xs) × All (λ x. k < x) (drop (suc p) xs)
behind_there k zero [] rises there = absurd (none-some k there)
behind_there k zero (x ∷ xs) rises there = let same : x ≡ k = same_Some x k there in (ap (λ y. y ∷ xs) same, subst (λ y. All (λ z. y < z) xs) same (above_all x xs rises.0))
behind_there k (suc p) [] rises there = absurd (none-some k there)
behind_there k (suc p) (x ∷ xs) rises there = behind_there k p xs rises.1 there

pub block_there : (p : ℕ) (blocks : List Block) (b : Block) → p < length blocks → b ≡ get_or blocks p b → drop p blocks ≡ b ∷ drop (suc p) blocks
block_there p [] b below is = absurd (omega (arith, below))
block_there zero (x ∷ blocks) b below is = ap (λ y. y ∷ blocks) (sym is)
block_there (suc p) (x ∷ blocks) b below is = block_there p blocks b (omega (arith, below)) is

pub stored_halves : (p : ℕ) (keys : List ℕ) (blocks : List Block) → length keys ≡ length blocks → stored_at keys blocks ≡ stored_at (take p keys) (take p blocks) ++ stored_at (drop p keys) (drop p blocks)
stored_halves zero keys blocks same = refl
stored_halves (suc p) [] blocks same = refl
stored_halves (suc p) (k ∷ keys) [] same = absurd (omega (arith, same))
stored_halves (suc p) (k ∷ keys) (b ∷ blocks) same = ap (λ l. (record { key = k; block = b }) ∷ l) (stored_halves p keys blocks (omega (arith, same)))

same_front : (p : ℕ) (keys : List ℕ) (blocks : List Block) → length keys ≡ length blocks → length (take p keys) ≡ length (take p blocks)
same_front p keys blocks same = omega (arith, length-take p keys, length-take p blocks, same)

-- ---- the splits by a key's place

module _ (k p : ℕ) (keys : List ℕ) (blocks : List Block) (paired : length keys ≡ length blocks) (rising : IsStrictlyIncreasing keys) (before : All (λ x. x < k) (take p keys)) (behind : All (λ x. k ≤ x) (drop p keys)) where
  rises : Rises keys
  rises = Rises_from_rising keys rising

  module _ (absent : slice_get keys p ≢ Some k) where
    later : All (λ x. k < x) (drop p keys)
    later = behind_absent k p keys rises behind absent

    pub absent_block : block_of k (stored_at keys blocks) ≡ None
    absent_block =
        ap (block_of k) (stored_halves p keys blocks paired)
        ∙ found_behind k (take p keys) (take p blocks) (stored_at (drop p keys) (drop p blocks)) before
        ∙ not_found k (drop p keys) (drop p blocks) later

    pub absent_gone : changed k None (stored_at keys blocks) ≡ stored_at keys blocks
    absent_gone =
        ap (changed k None) (stored_halves p keys blocks paired)
        ∙ change_between k None (take p keys) (drop p keys) (take p blocks) (drop p blocks) before later
        ∙ sym (stored_halves p keys blocks paired)

    pub absent_put : (b : Block) → stored_at (take p keys ++ k ∷ drop p keys) (take p blocks ++ b ∷ drop p blocks) ≡ changed k (Some b) (stored_at keys blocks)
    absent_put b =
        stored-append (take p keys) (k ∷ drop p keys) (take p blocks) (b ∷ drop p blocks) (same_front p keys blocks paired)
        ∙ sym (change_between k (Some b) (take p keys) (drop p keys) (take p blocks) (drop p blocks) before later)
        ∙ ap (changed k (Some b)) (sym (stored_halves p keys blocks paired))

    pub absent_rising : IsStrictlyIncreasing (take p keys ++ k ∷ drop p keys)
    absent_rising = rising_from_Rises (take p keys ++ k ∷ drop p keys) (Rises-insert k p keys rises before later)

  module _ (there : slice_get keys p ≡ Some k) (old : Block) (below : p < length blocks) (old_is : old ≡ get_or blocks p old) where
    stands : stored_at keys blocks ≡ stored_at (take p keys) (take p blocks) ++ (record { key = k; block = old }) ∷ stored_at (drop (suc p) keys) (drop (suc p) blocks)
    stands =
        stored_halves p keys blocks paired
        ∙ ap (λ l. stored_at (take p keys) (take p blocks) ++ stored_at l (drop p blocks)) (behind_there k p keys rises there).0
        ∙ ap (λ l. stored_at (take p keys) (take p blocks) ++ stored_at (k ∷ drop (suc p) keys) l) (block_there p blocks old below old_is)

    pub there_block : block_of k (stored_at keys blocks) ≡ Some old
    there_block =
        ap (block_of k) stands
        ∙ found_behind k (take p keys) (take p blocks) ((record { key = k; block = old }) ∷ stored_at (drop (suc p) keys) (drop (suc p) blocks)) before
        ∙ found_first k old (stored_at (drop (suc p) keys) (drop (suc p) blocks))

    there_changed : (block : Option Block) → changed k block (stored_at keys blocks) ≡ stored_at (take p keys) (take p blocks) ++ (stored_or_gone k block ++ stored_at (drop (suc p) keys) (drop (suc p) blocks))
    there_changed block =
        ap (changed k block) stands
        ∙ change_in_place k old block (take p keys) (drop (suc p) keys) (take p blocks) (drop (suc p) blocks) before (behind_there k p keys rises there).1

    pub there_put : (b : Block) → stored_at keys (set blocks p b) ≡ changed k (Some b) (stored_at keys blocks)
    there_put b =
        ap (λ l. stored_at l (set blocks p b)) (sym (take-append-drop p keys) ∙ ap (λ l. take p keys ++ l) (behind_there k p keys rises there).0)
        ∙ ap (stored_at (take p keys ++ k ∷ drop (suc p) keys)) (set_split blocks p b below)
        ∙ stored-append (take p keys) (k ∷ drop (suc p) keys) (take p blocks) (b ∷ drop (suc p) blocks) (same_front p keys blocks paired)
        ∙ sym (there_changed (Some b))

    pub there_gone : stored_at (take p keys ++ drop (suc p) keys) (take p blocks ++ drop (suc p) blocks) ≡ changed k None (stored_at keys blocks)
    there_gone =
        stored-append (take p keys) (drop (suc p) keys) (take p blocks) (drop (suc p) blocks) (same_front p keys blocks paired)
        ∙ sym (there_changed None)

  pub removed_rising : IsStrictlyIncreasing (take p keys ++ drop (suc p) keys)
  removed_rising = rising_from_Rises (take p keys ++ drop (suc p) keys) (Rises-remove p keys rises)

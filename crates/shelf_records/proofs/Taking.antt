-- Slots that are taken or given back one after another.
use Rattle.std.proofs.Common.{◌≡◌, ℕ, ◌+◌, ◌^◌, ◌<◌, ◌≤◌, List, [], ◌∷◌, ◌++◌, map, length, take, drop, get_or, set, sym, ap, subst, ◌∙◌, append_assoc, length-set, length-take, get_or-set_same, get_or-set_other, get_or-take, arith}
use Rattle.std.specs.List.{All}
use Rattle.std.proofs.Math.Logic.{⊎_elim}
use Rattle.std.proofs.lemmas.Bool.{cases_eq, cases_lt}
use Rattle.std.proofs.lemmas.List.{drop_all, drop_more, take-set-le, take_all, take_more_set}
use Rattle.std.proofs.lemmas.List.Sorted.{IsPermutation-middle, IsPermutation-sym}
use Rattle.extent_map.specs.Extents.{ExtentsView}
use Rattle.gno_codec.specs.declared.item.Block.{Block}
use Rattle.shelf_records.specs.Shelved.{slot}
use Rattle.shelf_records.specs.Slots.{AreFirstFree, AreHeld, IsFirstFree, IsWithin}
use Rattle.shelf_records.proofs.Holding.{held_permutation}

-- each of the first places was the first free slot
abbrev pub AreFirst : List ℕ → List ℕ → ℕ → Type 0
AreFirst slots places n = (k d : ℕ) → k < n → IsFirstFree (take k places ++ slots) (get_or places k d)

pub first_more : (slots places : List ℕ) (i at : ℕ) → i < length places → AreFirst slots places i → IsFirstFree (take i places ++ slots) at → AreFirst slots (set places i at) (i + 1)
first_more slots places i at below first own k d lt =
    ⊎_elim
    (λ same.
    let here : get_or (set places i at) k d ≡ at = ap (λ n. get_or (set places i at) n d) same ∙ get_or-set_same places i at d below in
    let front : take k (set places i at) ≡ take i places = ap (λ n. take n (set places i at)) same ∙ take-set-le i places i at (omega arith) in
    subst (λ (xs : List ℕ). IsFirstFree (xs ++ slots) (get_or (set places i at) k d)) (sym front) (subst (IsFirstFree (take i places ++ slots)) (sym here) own))
    (λ apart.
    let early : k < i = omega (arith, lt, apart) in
    let here : get_or (set places i at) k d ≡ get_or places k d = get_or-set_other places i k at d apart in
    let front : take k (set places i at) ≡ take k places = take-set-le k places i at (omega (arith, early)) in
    subst (λ (xs : List ℕ). IsFirstFree (xs ++ slots) (get_or (set places i at) k d)) (sym front) (subst (IsFirstFree (take k places ++ slots)) (sym here) (first k d early)))
    (cases_eq k i)

pub held_more : (slots places : List ℕ) (i at : ℕ) (used : ExtentsView) → i < length places → AreHeld (at ∷ (take i places ++ slots)) used → AreHeld (take (i + 1) (set places i at) ++ slots) used
held_more slots places i at used below held =
    let moved = held_permutation (at ∷ (take i places ++ slots)) (take i places ++ at ∷ slots) used (IsPermutation-sym (take i places ++ at ∷ slots) (at ∷ (take i places ++ slots)) (IsPermutation-middle (take i places) at slots)) held in
    let same : take i places ++ at ∷ slots ≡ take (i + 1) (set places i at) ++ slots =
    sym (append_assoc (take i places) (at ∷ []) slots) ∙ ap (λ xs. xs ++ slots) (sym (take_more_set places i at below)) in
    subst (λ (xs : List ℕ). AreHeld xs used) same moved

pub held_same : (slots places : List ℕ) (i at : ℕ) (old new : ExtentsView) → new ≡ old → AreHeld (take i places ++ slots) old → AreHeld (take i (set places i at) ++ slots) new
held_same slots places i at old new is held =
    subst (λ (u : ExtentsView). AreHeld (take i (set places i at) ++ slots) u) (sym is) (subst (λ (xs : List ℕ). AreHeld (xs ++ slots) old) (sym (take-set-le i places i at (omega arith))) held)

-- a place past which no disk reaches
past : (places : List ℕ) (i at k : ℕ) → i < length places → i < k → k ≤ length places → 2 ^ 60 < at + slot → All IsWithin (take k (set places i at)) → ⊥
past places i at k below lt within far all =
    let here : get_or (take k (set places i at)) i 0 ≡ at = get_or-take k (set places i at) i 0 lt ∙ get_or-set_same places i at 0 below in
    let one = all i 0 (omega (arith, length-take k (set places i at), length-set places i at)) in
    omega (arith, one, here, far)

pub first_all : (slots places : List ℕ) (i at : ℕ) → i < length places → AreFirst slots places i → IsFirstFree (take i places ++ slots) at → 2 ^ 60 < at + slot → AreFirstFree slots (set places i at)
first_all slots places i at below first own far k d lt all =
    ⊎_elim
    (λ early. first_more slots places i at below first own k d early)
    (λ late. absurd (past places i at k below (omega (arith, late)) (omega (arith, lt, length-set places i at)) far all))
    (cases_lt k (i + 1))

pub none_all : (places : List ℕ) (i at : ℕ) → i < length places → 2 ^ 60 < at + slot → All IsWithin (set places i at) → ⊥
none_all places i at below far all =
    let long : length (set places i at) ≡ length places = length-set places i at in
    past places i at (length places) below below (omega arith) far (subst (All IsWithin) (sym (take_all (length places) (set places i at) (omega (arith, long)))) all)

pub all_taken : (slots places : List ℕ) (i : ℕ) (used : ExtentsView) → length places ≤ i → AreHeld (take i places ++ slots) used → AreHeld (take (length places) places ++ slots) used
all_taken slots places i used end held =
    subst (λ (xs : List ℕ). AreHeld (xs ++ slots) used) (take_all i places end ∙ sym (take_all (length places) places (omega arith))) held

-- ---- given back

pub next_given : (slots places : List ℕ) (i : ℕ) (used : ExtentsView) → i < length places → AreHeld (drop i places ++ slots) used → AreHeld (get_or places i 0 ∷ (drop (i + 1) places ++ slots)) used
next_given slots places i used below held =
    subst (λ (xs : List ℕ). AreHeld (xs ++ slots) used) (drop_more places i 0 below) held

pub all_given : (slots places : List ℕ) (i : ℕ) (used : ExtentsView) → length places ≤ i → AreHeld (drop i places ++ slots) used → AreHeld slots used
all_given slots places i used end held = subst (λ (xs : List ℕ). AreHeld (xs ++ slots) used) (drop_all i places end) held

abbrev pub at_of : Block → ℕ
at_of b = b.at

pub next_block : (slots : List ℕ) (blocks : List Block) (i : ℕ) (d : Block) (used : ExtentsView) → i < length blocks → AreHeld (map at_of (drop i blocks) ++ slots) used → AreHeld ((get_or blocks i d).at ∷ (map at_of (drop (i + 1) blocks) ++ slots)) used
next_block slots blocks i d used below held =
    subst (λ (bs : List Block). AreHeld (map at_of bs ++ slots) used) (drop_more blocks i d below) held

pub all_blocks_given : (slots : List ℕ) (blocks : List Block) (i : ℕ) (used : ExtentsView) → length blocks ≤ i → AreHeld (map at_of (drop i blocks) ++ slots) used → AreHeld slots used
all_blocks_given slots blocks i used end held = subst (λ (bs : List Block). AreHeld (map at_of bs ++ slots) used) (drop_all i blocks end) held

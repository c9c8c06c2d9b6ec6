-- Where the pieces of a commit are written.
use Rattle.std.proofs.Common.{◌≡◌, ◌≢◌, ◌⊎◌, inl, inr, ℕ, zero, suc, ◌+◌, ◌-◌, ◌<◌, ◌≤◌, ◌%◌, ◌^◌, max, Bool, true, false, cond, List, [], ◌∷◌, ◌++◌, length, map, take, ◌/◌, ◌*◌, slice_index_or, refl, sym, ap, subst, ◌∙◌, append_assoc, arith}
use Rattle.std.specs.List.{All, AllPairs, Contains}
use Rattle.std.proofs.lemmas.Bool.{cases_lt, leb-true, leb-false}
use Rattle.std.proofs.lemmas.List.Elements.{All-cons, All-nil, All-head, All-tail, All-push, All-map, All-weaker, All-contains, All-contains_itself, Contains-append_cases, Contains-append_left, Contains-append_right, Contains-push}
use Rattle.std.proofs.Math.Nat.{mod-eq_of_lt, suc-mul, mul-mod_left}
use Rattle.std.proofs.lemmas.List.{take_at}
use Rattle.std.proofs.lemmas.List.Kept.{AllPairs-cons}
use Rattle.std.proofs.Math.Seq.{get_or-append_seam}
use Rattle.shelf_blocks.proofs.Filled.{whole}
use Rattle.shelf_blocks.proofs.Held.{all_mapped}
use Rattle.gno_codec.specs.declared.item.Block.{Block}
use Rattle.shelf_records.specs.Book.{places_of as block_places}
use Rattle.shelf_records.specs.Shelved.{AreBlocks, IsInSlot, Shelved, blocks_in_use, slot}
use Rattle.shelf_records.specs.Slots.{AreFirstFree, IsFirstFree, IsWithin}
use Rattle.block_slots.specs.declared.slots.Piece.{Piece}
use Rattle.shelf_blocks.specs.Pieces.{IsPiece, block_of}
use Rattle.block_slots.specs.Slots.{AreBeside, FollowOn, IsBeside, places_of, size_with}
use Rattle.split_store.specs.Writing.{reaches_end, tried_of}

-- ---- pieces that are tried

-- where all that are tried are within, all are
pub all_tried : (pieces : List Piece) → All (λ p. IsWithin p.at) (tried_of pieces) → (tried_of pieces ≡ pieces) × All (λ (p : Piece). IsWithin p.at) pieces
all_tried [] all = (refl, All-nil (λ (p : Piece). IsWithin p.at))
all_tried (p ∷ pieces) all = by (reaches_end p) refl (all_tried pieces) all
  where
    by : (t : Bool) → reaches_end p ≡ t → (All (λ (p : Piece). IsWithin p.at) (tried_of pieces) → (tried_of pieces ≡ pieces) × All (λ (p : Piece). IsWithin p.at) pieces) → All (λ (p : Piece). IsWithin p.at) (cond t (p ∷ tried_of pieces) (p ∷ []))
        → (cond t (p ∷ tried_of pieces) (p ∷ []) ≡ p ∷ pieces) × All (λ (p : Piece). IsWithin p.at) (p ∷ pieces)
    by true e later all =
        let rest = later (All-tail (λ (p : Piece). IsWithin p.at) p (tried_of pieces) all) in
        (ap (λ (l : List Piece). p ∷ l) rest.0, All-cons (λ (p : Piece). IsWithin p.at) p pieces (All-head (λ (p : Piece). IsWithin p.at) p (tried_of pieces) all) rest.1)
    by false e later all =
        let within = All-head (λ (p : Piece). IsWithin p.at) p [] all in
        let over = leb-false (p.at + slot) (2 ^ 60) e in
        absurd (omega (arith, within, over))

-- where all are within, all are tried
pub tried_all : (pieces : List Piece) → All (λ p. IsWithin p.at) pieces → tried_of pieces ≡ pieces
tried_all [] all = refl
tried_all (p ∷ pieces) all = by (reaches_end p) refl (tried_all pieces (All-tail (λ (p : Piece). IsWithin p.at) p pieces all))
  where
    by : (t : Bool) → reaches_end p ≡ t → tried_of pieces ≡ pieces → cond t (p ∷ tried_of pieces) (p ∷ []) ≡ p ∷ pieces
    by true e rest = ap (λ (l : List Piece). p ∷ l) rest
    by false e rest =
        let within = All-head (λ (p : Piece). IsWithin p.at) p pieces all in
        let over = leb-false (p.at + slot) (2 ^ 60) e in
        absurd (omega (arith, within, over))

-- ---- the size of the disk

pub size_grows : (size : ℕ) (pieces : List Piece) → size ≤ size_with size pieces
size_grows size [] = omega arith
size_grows size (p ∷ pieces) = let more = size_grows (max size (p.at + slot)) pieces in omega (arith, more)

pub size_holds : (size : ℕ) (pieces : List Piece) → All (λ p. p.at + slot ≤ size_with size pieces) pieces
size_holds size [] = All-nil (λ (p : Piece). p.at + slot ≤ size)
size_holds size (p ∷ pieces) =
    All-cons (λ (q : Piece). q.at + slot ≤ size_with (max size (p.at + slot)) pieces) p pieces (let more = size_grows (max size (p.at + slot)) pieces in omega (arith, more)) (size_holds (max size (p.at + slot)) pieces)

-- ---- free slots

-- each place is the first free one, once those before it are held too
abbrev FreeOn : List ℕ → List ℕ → List ℕ → Type 0
FreeOn slots before [] = Unit {0}
FreeOn slots before (at ∷ places) = IsFirstFree (before ++ slots) at × FreeOn slots (before ++ at ∷ []) places

free_on : (slots front : List ℕ) (pieces : List Piece) → AreFirstFree slots (front ++ places_of pieces) → All IsWithin front → FreeOn slots front (places_of (tried_of pieces))
free_on slots front [] first within = tt
free_on slots front (p ∷ pieces) first within =
    by (reaches_end p) refl (λ le. free_on slots (front ++ p.at ∷ []) pieces (subst (AreFirstFree slots) (sym (append_assoc front (p.at ∷ []) (places_of pieces))) first) (All-push IsWithin front p.at within le))
  where
    all : List ℕ
    all = front ++ places_of (p ∷ pieces)

    front_is : take (length front) all ≡ front
    front_is = take_at front (places_of (p ∷ pieces)) (length front) refl

    here : IsFirstFree (front ++ slots) p.at
    here = subst (λ (at : ℕ). IsFirstFree (front ++ slots) at) (get_or-append_seam front p.at (places_of pieces) 0)
        (subst (λ (l : List ℕ). IsFirstFree (l ++ slots) (slice_index_or all (length front) 0)) front_is
        (first (length front) 0 (long front) (subst (All IsWithin) (sym front_is) within)))
      where
        long : (xs : List ℕ) → length xs < length (xs ++ places_of (p ∷ pieces))
        long [] = omega arith
        long (x ∷ xs) = let more = long xs in omega (arith, more)

    by : (t : Bool) → reaches_end p ≡ t → (IsWithin p.at → FreeOn slots (front ++ p.at ∷ []) (places_of (tried_of pieces))) → FreeOn slots front (places_of (cond t (p ∷ tried_of pieces) (p ∷ [])))
    by true e rest = (here, rest (let le = leb-true (p.at + slot) (2 ^ 60) e in omega (arith, le)))
    by false e rest = (here, tt)

-- between two multiples is a whole slot
slot_gap : (a b : ℕ) → a % slot ≡ 0 → b % slot ≡ 0 → a < b → a + slot ≤ b
slot_gap a b none none_too lt = let one = whole slot a none in let other = whole slot b none_too in omega (arith, one, other, lt)

apart_slots : (a b : ℕ) → a % slot ≡ 0 → b % slot ≡ 0 → (a ≡ b → ⊥) → (a + slot ≤ b) ⊎ (b + slot ≤ a)
apart_slots a b none none_too ne = elim (cases_lt a b) [
  | inl lt ↦ inl (slot_gap a b none none_too lt)
  | inr ge ↦ inr (slot_gap b a none_too none (below a b ge ne))
]
  where
    below : (a b : ℕ) → b ≤ a → (a ≡ b → ⊥) → b < a
    below a b ge ne = elim (cases_lt b a) [ inl lt ↦ lt | inr le ↦ absurd (ne (omega (arith, ge, le))) ]

-- blocks in use are beside the slots
beside_one : (size : ℕ) (slots before places : List ℕ) (b : Block) → IsInSlot size b → Contains slots b.at → FreeOn slots before places → All (IsBeside b) places
beside_one size slots before [] b is held free = All-nil (IsBeside b)
beside_one size slots before (at ∷ places) b is held free =
    All-cons (IsBeside b) at places
    (let short = is.short in
    elim (apart_slots b.at at is.begins free.0.aligned (λ same. free.0.free (Contains-append_right before slots at (subst (Contains slots) same held)))) [
      | inl before_it ↦ inl (omega (arith, before_it, short))
      | inr behind_it ↦ inr behind_it
    ])
    (beside_one size slots (before ++ at ∷ []) places b is held free.1)

beside_all : (size : ℕ) (slots places : List ℕ) (blocks : List Block) → All (IsInSlot size) blocks → All (λ (b : Block). Contains slots b.at) blocks → FreeOn slots [] places → All (λ (b : Block). All (IsBeside b) places) blocks
beside_all size slots places [] each held free = All-nil (λ (b : Block). All (IsBeside b) places)
beside_all size slots places (b ∷ blocks) each held free =
    All-cons (λ (b : Block). All (IsBeside b) places) b blocks (beside_one size slots [] places b (All-head (IsInSlot size) b blocks each) (All-head (λ (b : Block). Contains slots b.at) b blocks held) free)
    (beside_all size slots places blocks (All-tail (IsInSlot size) b blocks each) (All-tail (λ (b : Block). Contains slots b.at) b blocks held) free)

-- the slots are apart
later_beside : (slots before : List ℕ) (at : ℕ) (pieces : List Piece) → at % slot ≡ 0 → Contains before at → FreeOn slots before (places_of pieces) → All (λ (q : Piece). (at + slot ≤ q.at) ⊎ (q.at + slot ≤ at)) pieces
later_beside slots before at [] none held free = All-nil (λ (q : Piece). (at + slot ≤ q.at) ⊎ (q.at + slot ≤ at))
later_beside slots before at (q ∷ pieces) none held free =
    All-cons (λ (q : Piece). (at + slot ≤ q.at) ⊎ (q.at + slot ≤ at)) q pieces
    (apart_slots at q.at none free.0.aligned (λ same. free.0.free (Contains-append_left before slots q.at (subst (Contains before) same held))))
    (later_beside slots (before ++ q.at ∷ []) at pieces none (Contains-append_left before (q.at ∷ []) at held) free.1)

all_beside : (slots before : List ℕ) (pieces : List Piece) → FreeOn slots before (places_of pieces) → AllPairs AreBeside pieces
all_beside slots before [] free = λ i j d lt within. absurd (omega (arith, within))
all_beside slots before (p ∷ pieces) free =
    AllPairs-cons AreBeside p pieces (later_beside slots (before ++ p.at ∷ []) p.at pieces free.0.aligned (Contains-push before p.at) free.1) (all_beside slots (before ++ p.at ∷ []) pieces free.1)

-- the slot before a free one is held, so a write there follows on
slot_before : (n at : ℕ) → 0 < n → at % n ≡ 0 → n ≤ at → (at - n) % n ≡ 0
slot_before n at some none le = by (at / n) (whole n at none)
  where
    by : (q : ℕ) → at ≡ q * n → (at - n) % n ≡ 0
    by zero e = absurd (omega (arith, e, le, some))
    by (suc q) e = let step = suc-mul q n in let is : at - n ≡ q * n = omega (arith, e, step) in ap (λ x. x % n) is ∙ mul-mod_left q n

reached : (size : ℕ) (slots before : List ℕ) (at : ℕ) → IsFirstFree (before ++ slots) at → All (λ (s : ℕ). s + slot ≤ size) slots → All (λ (s : ℕ). s + slot ≤ size) before → at ≤ size
reached size slots before at first within so_far = elim (cases_lt at slot) [
  | inl low ↦ by_zero at first.aligned low
  | inr high ↦ (let prev = slot_before slot at (omega arith) first.aligned high in
      elim (Contains-append_cases before slots (at - slot) (first.below (at - slot) prev (omega (arith, high)))) [
        | inl held ↦ (let le = All-contains (λ (s : ℕ). s + slot ≤ size) before (at - slot) so_far held in omega (arith, le, high))
        | inr held ↦ (let le = All-contains (λ (s : ℕ). s + slot ≤ size) slots (at - slot) within held in omega (arith, le, high))
      ])
]
  where
    by_zero : (at : ℕ) → at % slot ≡ 0 → at < slot → at ≤ size
    by_zero at none low = let e = mod-eq_of_lt low in omega (arith, e, none)

follow_on : (size longer : ℕ) (slots before : List ℕ) (pieces : List Piece) → All (λ (s : ℕ). s + slot ≤ size) slots → size ≤ longer → All (λ (s : ℕ). s + slot ≤ longer) before → FreeOn slots before (places_of pieces) → FollowOn longer pieces
follow_on size longer slots before [] within le so_far free = tt
follow_on size longer slots before (p ∷ pieces) within le so_far free =
    let grown = max longer (p.at + slot) in (
      reached longer slots before p.at free.0 (All-weaker (λ (s : ℕ). s + slot ≤ size) (λ s. s + slot ≤ longer) (λ s w. omega (arith, w, le)) slots within) so_far,
      follow_on size grown slots (before ++ p.at ∷ []) pieces within (omega (arith, le))
          (All-push (λ (s : ℕ). s + slot ≤ grown) before p.at (All-weaker (λ (s : ℕ). s + slot ≤ longer) (λ s. s + slot ≤ grown) (λ s w. omega (arith, w)) before so_far) (omega arith)) free.1,
    )

-- ---- what a commit may write

-- What is so of the pieces that a commit tries to write, at the first free slots: the blocks in use are beside their
-- slots, these are apart, and each begins within the disk as it then is.
pub record MayWrite (size : ℕ) (metrics : List Shelved) (pieces : List Piece) : Type 0 where
  pub beside : All (λ block. All (IsBeside block) (places_of (tried_of pieces))) (blocks_in_use metrics)
  pub apart : AllPairs AreBeside (tried_of pieces)
  pub placed : FollowOn size (tried_of pieces)
  pub aligned : All (λ at. at % slot ≡ 0) (places_of (tried_of pieces))
  pub fresh : All (λ at. Contains (block_places (blocks_in_use metrics)) at → ⊥) (places_of (tried_of pieces))
  pub differ : AllPairs (λ (a b : ℕ). a ≢ b) (places_of (tried_of pieces))

aligned_all : (slots before places : List ℕ) → FreeOn slots before places → All (λ (at : ℕ). at % slot ≡ 0) places
aligned_all slots before [] free = All-nil (λ (at : ℕ). at % slot ≡ 0)
aligned_all slots before (at ∷ places) free = All-cons (λ (at : ℕ). at % slot ≡ 0) at places free.0.aligned (aligned_all slots (before ++ at ∷ []) places free.1)

-- no free slot is a held one
fresh_all : (slots before places : List ℕ) → FreeOn slots before places → All (λ at. Contains (before ++ slots) at → ⊥) places
fresh_all slots before [] free = All-nil (λ (at : ℕ). Contains (before ++ slots) at → ⊥)
fresh_all slots before (at ∷ places) free =
    All-cons (λ (at : ℕ). Contains (before ++ slots) at → ⊥) at places free.0.free
    (All-weaker (λ (b : ℕ). Contains ((before ++ at ∷ []) ++ slots) b → ⊥) (λ b. Contains (before ++ slots) b → ⊥) (λ b none there. none (with_more at b there)) places (fresh_all slots (before ++ at ∷ []) places free.1))
  where
    with_more : (at b : ℕ) → Contains (before ++ slots) b → Contains ((before ++ at ∷ []) ++ slots) b
    with_more at b there = elim (Contains-append_cases before slots b there) [
      | inl own ↦ Contains-append_left (before ++ at ∷ []) slots b (Contains-append_left before (at ∷ []) b own)
      | inr held ↦ Contains-append_right (before ++ at ∷ []) slots b held
    ]

-- and no two are one
differ_all : (slots before places : List ℕ) → FreeOn slots before places → AllPairs (λ (a b : ℕ). a ≢ b) places
differ_all slots before [] free = λ i j d lt within. absurd (omega (arith, within))
differ_all slots before (at ∷ places) free =
    AllPairs-cons (λ (a b : ℕ). a ≢ b) at places
    (All-weaker (λ (b : ℕ). Contains ((before ++ at ∷ []) ++ slots) b → ⊥) (λ b. at ≢ b)
    (λ b none same. none (Contains-append_left (before ++ at ∷ []) slots b (subst (Contains (before ++ at ∷ [])) same (Contains-push before at)))) places (fresh_all slots (before ++ at ∷ []) places free.1))
    (differ_all slots (before ++ at ∷ []) places free.1)

pub may_write : (size : ℕ) (metrics : List Shelved) (pieces : List Piece) → AreBlocks size metrics → AreFirstFree (block_places (blocks_in_use metrics)) (places_of pieces) → MayWrite size metrics pieces
may_write size metrics pieces blocks first =
    let used = blocks_in_use metrics in
    let slots = block_places used in
    let free = free_on slots [] pieces first (All-nil IsWithin) in
    let held = all_mapped (Contains slots) (λ (b : Block). b.at) used (All-contains_itself slots) in
    let within = All-map (λ (s : ℕ). s + slot ≤ size) (λ (b : Block). b.at) used (All-weaker (IsInSlot size) (λ b. b.at + slot ≤ size) (λ b is. is.within) used blocks.each) in
    record {
      beside = beside_all size slots (places_of (tried_of pieces)) used blocks.each held free;
      apart = all_beside slots [] (tried_of pieces) free;
      placed = follow_on size size slots [] (tried_of pieces) within (omega arith) (All-nil (λ (s : ℕ). s + slot ≤ size)) free;
      aligned = aligned_all slots [] (places_of (tried_of pieces)) free;
      fresh = fresh_all slots [] (places_of (tried_of pieces)) free;
      differ = differ_all slots [] (places_of (tried_of pieces)) free;
    }

-- the blocks of pieces that were written stand in slots of the disk
pub blocks_in_slots : (size : ℕ) (pieces : List Piece) → All IsPiece pieces → All (λ at. at % slot ≡ 0) (places_of pieces) → All (IsInSlot (size_with size pieces)) (map block_of pieces)
blocks_in_slots size pieces fit aligned = All-map (IsInSlot (size_with size pieces)) block_of pieces
    (λ k d lt. record {
      begins = all_mapped (λ (at : ℕ). at % slot ≡ 0) (λ (p : Piece). p.at) pieces aligned k d lt;
      short = (fit k d lt).fits;
      within = size_holds size pieces k d lt;
    })

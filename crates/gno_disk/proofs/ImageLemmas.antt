-- What each call may leave.
use Rattle.std.proofs.Common.{◌≡◌, ◌⊎◌, ℕ, ◌+◌, ◌<◌, ◌≤◌, min, max, Bool, true, false, cond, ◌&&◌, ◌||◌, nat_lt, List, [], ◌∷◌, ◌++◌, length, map, take, drop, get_or, slice_index, inl, inr, refl, sym, ap, ◌∙◌, arith, zero-add, length-take, length-drop}
use Rattle.std.specs.List.{list_any, range_with_len}
use Rattle.std.proofs.lemmas.Bool.{cases_lt}
use Rattle.std.proofs.lemmas.Bool.Decides.{nat_tests}
use Rattle.std.proofs.lemmas.List.{ext_get_or, get_or-take, get_or-drop}
use Rattle.std.proofs.lemmas.List.Folds.{list_any-append}
use Rattle.std.proofs.lemmas.List.FromFn.{length-map-range_with_len, get_or-map-range_with_len}
use Rattle.gno_disk.specs.Disk.{Torn, LooseCut}
use Rattle.gno_disk.specs.Memory.{cut_to}
use Rattle.gno_disk.specs.Images.{Range, State, fresh, after_step, covers, is_loose, IsImage}

covers-before : (place at len : ℕ) → place < at → covers place (record { at = at; len = len }) ≡ false
covers-before place at len lt = grind (arith, nat_tests)

covers-after : (place at len : ℕ) → at + len ≤ place → covers place (record { at = at; len = len }) ≡ false
covers-after place at len le = grind (arith, nat_tests)

outside : (place at len : ℕ) → covers place (record { at = at; len = len }) ≡ false → (place < at) ⊎ (at + len ≤ place)
outside place at len miss = elim (cases_lt place at) [
  | inl lt ↦ inl lt
  | inr ge ↦ elim (cases_lt place (at + len)) [
    | inl lt ↦ absurd (grind (arith, nat_tests))
    | inr past ↦ inr past
  ]
]

-- a place that isn't loose lies below the least length, and in no range
firm_below : (s : State) (place : ℕ) → is_loose s place ≡ false → place < s.least
firm_below s place firm = grind (arith, nat_tests)

firm_free : (s : State) (place : ℕ) → is_loose s place ≡ false → list_any (covers place) s.ranges ≡ false
firm_free s place firm = grind (arith, nat_tests)

firm_from : (s : State) (place : ℕ) → place < s.least → list_any (covers place) s.ranges ≡ false → is_loose s place ≡ false
firm_from s place below free = grind (arith, nat_tests)

-- the bytes of a list of which each is known
module _ (f : ℕ → ℕ) (n : ℕ) where
  made : List ℕ
  made = map f (range_with_len 0 n)

  length_made : length made ≡ n
  unfolding made
  length_made = length-map-range_with_len f 0 n

  get_made : (k : ℕ) → k < n → get_or made k 0 ≡ f k
  unfolding made
  get_made k lt = get_or-map-range_with_len f 0 n k k 0 lt (zero-add k)

-- An image after a write is an earlier one after a part of the write: where the write's range is,
-- the earlier one held what a read gave.
module _ (s t : State) (at n : ℕ) (image : List ℕ) (is_image : IsImage t image)
    (inside : at ≤ length s.bytes) (low : s.least ≤ length s.bytes) (high : length s.bytes ≤ s.greatest)
    (least : t.least ≡ s.least) (greatest : t.greatest ≤ max s.greatest (at + n)) (ranges : t.ranges ≡ s.ranges ++ (record { at = at; len = n }) ∷ [])
    (same : (k : ℕ) → (k < at) ⊎ (at + n ≤ k) → k < s.least → slice_index t.bytes k ≡ slice_index s.bytes k) where
  range : Range
  range = record { at = at; len = n }

  byte : ℕ → ℕ
  byte k = cond (covers k (record { at = at; len = n })) (slice_index s.bytes k) (slice_index image k)

  size : ℕ
  size = min (length image) s.greatest

  before : List ℕ
  before = made byte size

  length_before : length before ≡ min (length image) s.greatest
  unfolding before size
  length_before = length_made byte size

  get_before : (k : ℕ) → k < min (length image) s.greatest → get_or before k 0 ≡ byte k
  unfolding before size
  get_before k lt = get_made byte size k lt

  byte_outside : (k : ℕ) → covers k (record { at = at; len = n }) ≡ false → byte k ≡ slice_index image k
  unfolding byte
  byte_outside k miss = ap (λ (b : Bool). cond b (slice_index s.bytes k) (slice_index image k)) miss

  byte_inside : (k : ℕ) → covers k (record { at = at; len = n }) ≡ true → byte k ≡ slice_index s.bytes k
  unfolding byte
  byte_inside k hit = ap (λ (b : Bool). cond b (slice_index s.bytes k) (slice_index image k)) hit

  free_after : (k : ℕ) → list_any (covers k) s.ranges ≡ false → covers k (record { at = at; len = n }) ≡ false → list_any (covers k) t.ranges ≡ false
  free_after k free miss =
      ap (λ (rs : List Range). list_any (covers k) rs) ranges
      ∙ list_any-append (covers k) s.ranges ((record { at = at; len = n }) ∷ [])
      ∙ ap (λ (b : Bool). b || (covers k (record { at = at; len = n }) || false)) free
      ∙ ap (λ (b : Bool). b || false) miss

  firm : (k : ℕ) → k < min (length image) s.greatest → is_loose s k ≡ false → byte k ≡ slice_index s.bytes k
  firm k lt firm_k =
      let go : (b : Bool) → covers k (record { at = at; len = n }) ≡ b → byte k ≡ slice_index s.bytes k =
      λ b. elim b as (λ b. covers k (record { at = at; len = n }) ≡ b → byte k ≡ slice_index s.bytes k) [
        | true ↦ λ hit. byte_inside k hit
        | false ↦ λ miss.
            let below = firm_below s k firm_k in
            let firm_t = firm_from t k (omega (arith, below, least)) (free_after k (firm_free s k firm_k) miss) in
            byte_outside k miss ∙ is_image.firm k (omega (arith, lt)) firm_t ∙ same k (outside k at n miss) below
      ] in
      go (covers k (record { at = at; len = n })) refl

  before_is : IsImage s before
  before_is = record {
    least = let l = is_image.least in omega (arith, length_before, least, l);
    greatest = omega (arith, length_before);
    firm = λ k lt firm_k. let lt' : k < min (length image) s.greatest = omega (arith, length_before, lt) in get_before k lt' ∙ firm k lt' firm_k;
  }

  before_get : (k : ℕ) → k < min (length image) s.greatest → (k < at) ⊎ (at + n ≤ k) → get_or before k 0 ≡ get_or image k 0
  before_get k lt out = get_before k lt ∙ byte_outside k (elim out as (λ _. covers k (record { at = at; len = n }) ≡ false) [ inl lt ↦ covers-before k at n lt | inr le ↦ covers-after k at n le ])

  torn : Torn at n before image
  torn = record {
    before = ext_get_or 0 (take at image) (take at before) (omega (arith, length-take at image, length-take at before, length_before))
        (λ k lt.
        let lt_at : k < at = omega (arith, length-take at image) in
        let lt_image : k < length image = omega (arith, length-take at image) in
        get_or-take at image k 0 lt_at ∙ sym (before_get k (omega arith) (inl lt_at)) ∙ sym (get_or-take at before k 0 lt_at));
    after = ext_get_or 0 (drop (at + n) image) (drop (at + n) before) (let g = is_image.greatest in omega (arith, length-drop (at + n) image, length-drop (at + n) before, length_before, g, greatest))
        (λ k lt.
        let g = is_image.greatest in
        let lt_image : at + n + k < min (length image) s.greatest = omega (arith, length-drop (at + n) image, g, greatest) in
        get_or-drop (at + n) image k 0 ∙ sym (before_get (at + n + k) lt_image (inr (omega arith))) ∙ sym (get_or-drop (at + n) before k 0));
    no_shorter = omega (arith, length_before);
    no_longer = let g = is_image.greatest in omega (arith, length_before, g, greatest);
  }

  pub torn_back : (earlier : List ℕ) × IsImage s earlier × Torn at n earlier image
  torn_back = (before, before_is, torn)

-- An image after a cut is an earlier one, cut in part, with any bytes past the cut.
module _ (s : State) (to : ℕ) (image : List ℕ) (is_image : IsImage (after_step s (cut_to to false)) image)
    (inside : to ≤ length s.bytes) (low : s.least ≤ length s.bytes) (high : length s.bytes ≤ s.greatest) where
  kept_byte : ℕ → ℕ
  kept_byte k = cond (nat_lt k to && nat_lt k (length image)) (slice_index image k) (slice_index s.bytes k)

  uncut : List ℕ
  uncut = made kept_byte (max (length image) s.least)

  length_uncut : length uncut ≡ max (length image) s.least
  unfolding uncut
  length_uncut = length_made kept_byte (max (length image) s.least)

  get_uncut : (k : ℕ) → k < max (length image) s.least → get_or uncut k 0 ≡ kept_byte k
  unfolding uncut
  get_uncut k lt = get_made kept_byte (max (length image) s.least) k lt

  kept_front : (k : ℕ) → k < to → k < length image → kept_byte k ≡ slice_index image k
  unfolding kept_byte
  kept_front k lt lt_image =
      let hit : (nat_lt k to && nat_lt k (length image)) ≡ true = grind (arith, nat_tests) in
      ap (λ (b : Bool). cond b (slice_index image k) (slice_index s.bytes k)) hit

  kept_back : (k : ℕ) → (nat_lt k to && nat_lt k (length image)) ≡ false → kept_byte k ≡ slice_index s.bytes k
  unfolding kept_byte
  kept_back k miss = ap (λ (b : Bool). cond b (slice_index image k) (slice_index s.bytes k)) miss

  firm_cut : (k : ℕ) → is_loose s k ≡ false → kept_byte k ≡ slice_index s.bytes k
  firm_cut k firm_k =
      let below = firm_below s k firm_k in
      let free = firm_free s k firm_k in
      let go : (b : Bool) → (nat_lt k to && nat_lt k (length image)) ≡ b → kept_byte k ≡ slice_index s.bytes k =
      λ b. elim b as (λ b. (nat_lt k to && nat_lt k (length image)) ≡ b → kept_byte k ≡ slice_index s.bytes k) [
        | true ↦ λ hit.
            let lt_to : k < to = grind (arith, nat_tests) in
            let lt_image : k < length image = grind (arith, nat_tests) in
            kept_front k lt_to lt_image ∙ is_image.firm k lt_image (firm_from (after_step s (cut_to to false)) k (omega (arith, below, lt_to)) free) ∙ get_or-take to s.bytes k 0 lt_to
        | false ↦ λ miss. kept_back k miss
      ] in
      go (nat_lt k to && nat_lt k (length image)) refl

  uncut_is : IsImage s uncut
  uncut_is = record {
    least = omega (arith, length_uncut);
    greatest = let g = is_image.greatest in omega (arith, length_uncut, g);
    firm = λ k lt firm_k. get_uncut k (omega (arith, length_uncut, lt)) ∙ firm_cut k firm_k;
  }

  loose : LooseCut to uncut image
  loose = record {
    front = ext_get_or 0 (take to image) (take to uncut) (let l = is_image.least in omega (arith, length-take to image, length-take to uncut, length_uncut, l))
        (λ k lt.
        let lt_to : k < to = omega (arith, length-take to image) in
        let lt_image : k < length image = omega (arith, length-take to image) in
        get_or-take to image k 0 lt_to ∙ sym (kept_front k lt_to lt_image) ∙ sym (get_uncut k (omega arith)) ∙ sym (get_or-take to uncut k 0 lt_to));
    no_shorter = let l = is_image.least in omega (arith, length_uncut, l);
    no_longer = omega (arith, length_uncut);
  }

  pub cut_back : (earlier : List ℕ) × IsImage s earlier × LooseCut to earlier image
  cut_back = (uncut, uncut_is, loose)

-- the bytes that a read gives are an image
pub image_itself : (s : State) → s.least ≤ length s.bytes → length s.bytes ≤ s.greatest → IsImage s s.bytes
image_itself s low high = record { least = low; greatest = high; firm = λ place lt firm_k. refl }

-- after a sync they are the only one
pub image_only : (bytes image : List ℕ) → IsImage (fresh bytes) image → image ≡ bytes
image_only bytes image is_image =
    let l = is_image.least in
    let g = is_image.greatest in
    ext_get_or 0 image bytes (omega arith) (λ k lt. is_image.firm k lt (firm_from (fresh bytes) k (omega arith) refl))

pub Torn-same : (at n : ℕ) (image : List ℕ) → Torn at n image image
Torn-same at n image = record { before = refl; after = refl; no_shorter = omega arith; no_longer = omega arith }

pub LooseCut-same : (to : ℕ) (image : List ℕ) → LooseCut to image image
LooseCut-same to image = record { front = refl; no_shorter = omega arith; no_longer = omega arith }

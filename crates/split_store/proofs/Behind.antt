-- The blocks in use after a commit.
use Rattle.std.proofs.Common.{◌≡◌, ◌≢◌, ℕ, ◌<◌, ◌≤◌, eqb, Bool, true, false, cond, List, [], ◌∷◌, ◌++◌, length, map, set, Some, None, refl, sym, ap, subst, ◌∙◌, append_assoc, arith}
use Rattle.std.specs.List.{All, AllPairs, Contains}
use Rattle.std.specs.List.Sorted.{IsPermutation}
use Rattle.std.proofs.lemmas.Bool.{cases_eq, eq-eqb, eqb-false, eqb-true, ne_eqb}
use Rattle.std.proofs.Math.Logic.{⊎_elim}
use Rattle.std.proofs.lemmas.List.{append-nil, get_or-map, length-map}
use Rattle.std.proofs.lemmas.List.Elements.{All-append, All-cons, All-head, All-nil, All-tail, All-weaker, All-contains_itself}
use Rattle.std.proofs.lemmas.List.Sorted.{All-permutation, IsPermutation-append_comm, IsPermutation-append_left, IsPermutation-append_right, IsPermutation-trans}
use Rattle.std.proofs.lemmas.Map.Keys.{IsDistinct-IsPermutation, IsDistinct-from_apart, apart_from_distinct}
use Rattle.gno_codec.specs.declared.item.Block.{Block}
use Rattle.gno_codec.specs.declared.item.CommitItem.{CommitItem}
use Rattle.gno_codec.specs.declared.item.ShelfItem.TheVariants as items
use Rattle.gno_codec.specs.Shelf.{ComesBefore}
use Rattle.series_model.proofs.Rising.{Rises}
use Rattle.extent_map.proofs.RangeLemmas.{pairs-append, pairs-right}
use Rattle.shelf_records.specs.Book.{IsPlaceOf, freed_blocks, new_blocks, places_of}
use Rattle.shelf_records.specs.Filed.{IsFiled}
use Rattle.shelf_records.specs.Shelved.{AreBlocks, FitsMetric, IsInSlot, Shelved, after_record, blocks_in_use, blocks_of_metric, committed, metric_of}
use Rattle.shelf_records.proofs.Metrics.{commit_moves, settled}
use Rattle.shelf_blocks.proofs.Held.{all_back, all_mapped}
use Rattle.split_store.proofs.Sound.{above_all, number_of}

swapped : {X : Type 0} (a b c : List X) → IsPermutation (a ++ (b ++ c)) (b ++ (a ++ c))
swapped {X} a b c =
    subst (λ (l : List X). IsPermutation l (b ++ (a ++ c))) (append_assoc a b c)
    (subst (IsPermutation ((a ++ b) ++ c)) (append_assoc b a c) (IsPermutation-append_left c (a ++ b) (b ++ a) (IsPermutation-append_comm a b)))

-- on a longer disk
pub blocks_longer : (size longer : ℕ) (metrics : List Shelved) → size ≤ longer → AreBlocks size metrics → AreBlocks longer metrics
blocks_longer size longer metrics le blocks = record {
  each = All-weaker (IsInSlot size) (IsInSlot longer) (λ b is. record { begins = is.begins; short = is.short; within = (let w = is.within in omega (arith, w, le)) }) (blocks_in_use metrics) blocks.each;
  apart = blocks.apart;
}

-- the number of the metric that is found
pub found_number : (metrics : List Shelved) (c : CommitItem) (m : Shelved) → metric_of c.metric metrics ≡ Some m → m.id.0 ≡ c.metric.0
found_number [] c m found = absurd cc
found_number (x ∷ metrics) c m found = by (eqb x.id.0 c.metric.0) refl (found_number metrics c m) found
  where
    by : (t : Bool) → eqb x.id.0 c.metric.0 ≡ t → (metric_of c.metric metrics ≡ Some m → m.id.0 ≡ c.metric.0) → cond t (Some x) (metric_of c.metric metrics) ≡ Some m → m.id.0 ≡ c.metric.0
    by true e rest found = let is : x ≡ m = cc in ap (λ (k : Shelved). k.id.0) (sym is) ∙ eqb-true x.id.0 c.metric.0 e
    by false e rest found = rest found

module _ (c : CommitItem) (m : Shelved) (filed : IsFiled m) (number : m.id.0 ≡ c.metric.0) (fits : FitsMetric c m) (order : AllPairs ComesBefore c.changes) where
  abbrev own : List Block
  own = blocks_of_metric m

  abbrev then : List Block
  then = blocks_of_metric (committed c m)

  abbrev gone : List Block
  gone = freed_blocks m c.changes

  found : metric_of c.metric (m ∷ []) ≡ Some m
  found = ap (λ (t : Bool). cond t (Some m) None) (eq-eqb m.id.0 c.metric.0 number)

  -- of the metric alone
  own_moves : IsPermutation (new_blocks c ++ own) (gone ++ then)
  own_moves =
      let place : IsPlaceOf c.metric (m ∷ []) 0 = record { metric = m; there = refl; found = found; same = ap (λ (n : ℕ). record { 0 = n }) number } in
      let moved = commit_moves (m ∷ []) c 0 place (λ k lt. absurd (omega (arith, lt))) (All-cons IsFiled m [] filed (All-nil IsFiled)) (m, found, fits) order in
      subst (λ (l : List Block). IsPermutation (new_blocks c ++ l) (gone ++ then)) (append-nil own)
      (subst (λ (l : List Block). IsPermutation (new_blocks c ++ (own ++ [])) (gone ++ l)) (append-nil then)
      (settled (blocks_in_use (m ∷ [])) gone (blocks_in_use (set (m ∷ []) 0 (committed c m))) (new_blocks c) moved))

  -- metrics behind the one that is committed stay
  later_same : (metrics : List Shelved) → All (λ (x : Shelved). c.metric.0 < x.id.0) metrics → after_record metrics (items.Commit c) ≡ metrics
  later_same [] later = refl
  later_same (x ∷ metrics) later =
      let lt = All-head (λ (x : Shelved). c.metric.0 < x.id.0) x metrics later in
      ap (λ (t : Bool). cond t (committed c x) x ∷ after_record metrics (items.Commit c)) (ne_eqb x.id.0 c.metric.0 (λ same. absurd (omega (arith, lt, same))))
      ∙ ap (λ (l : List Shelved). x ∷ l) (later_same metrics (All-tail (λ (x : Shelved). c.metric.0 < x.id.0) x metrics later))

  -- of all metrics
  pub all_moves : (metrics : List Shelved) → Rises (map number_of metrics) → metric_of c.metric metrics ≡ Some m
      → IsPermutation (new_blocks c ++ blocks_in_use metrics) (gone ++ blocks_in_use (after_record metrics (items.Commit c)))
  all_moves [] rises there = absurd cc
  all_moves (x ∷ metrics) rises there = by (eqb x.id.0 c.metric.0) refl (all_moves metrics rises.1) there
    where
      rest : List Block
      rest = blocks_in_use metrics

      after : List Block
      after = blocks_in_use (after_record metrics (items.Commit c))

      by : (t : Bool) → eqb x.id.0 c.metric.0 ≡ t → (metric_of c.metric metrics ≡ Some m → IsPermutation (new_blocks c ++ rest) (gone ++ after)) → cond t (Some x) (metric_of c.metric metrics) ≡ Some m
          → IsPermutation (new_blocks c ++ (blocks_of_metric x ++ rest)) (gone ++ (blocks_of_metric (cond t (committed c x) x) ++ after))
      by true e later there =
          let is : m ≡ x = cc in
          let same : after ≡ rest = ap blocks_in_use (later_same metrics (subst (λ n. All (λ (y : Shelved). n < y.id.0) metrics) (eqb-true x.id.0 c.metric.0 e) (above_all x.id.0 metrics rises.0))) in
          subst (λ (k : Shelved). IsPermutation (new_blocks c ++ (blocks_of_metric k ++ rest)) (gone ++ (blocks_of_metric (committed c k) ++ after))) is
          (subst (λ (l : List Block). IsPermutation (new_blocks c ++ (own ++ rest)) (gone ++ (then ++ l))) (sym same)
          (subst (λ (l : List Block). IsPermutation l (gone ++ (then ++ rest))) (append_assoc (new_blocks c) own rest)
          (subst (IsPermutation ((new_blocks c ++ own) ++ rest)) (append_assoc gone then rest) (IsPermutation-append_left rest (new_blocks c ++ own) (gone ++ then) own_moves))))
      by false e later there =
          let mine = blocks_of_metric x in
          IsPermutation-trans (new_blocks c ++ (mine ++ rest)) (mine ++ (new_blocks c ++ rest)) (gone ++ (mine ++ after)) (swapped (new_blocks c) mine rest)
          (IsPermutation-trans (mine ++ (new_blocks c ++ rest)) (mine ++ (gone ++ after)) (gone ++ (mine ++ after)) (IsPermutation-append_right mine (new_blocks c ++ rest) (gone ++ after) (later there)) (swapped mine gone after))

  abbrev Differ : Block → Block → Type 0
  Differ a b = a.at ≢ b.at

  same_place : Block → Block → Bool
  same_place a b = eqb a.at b.at

  differ_permutation : (xs ys : List Block) → IsPermutation xs ys → AllPairs Differ xs → AllPairs Differ ys
  unfolding same_place
  differ_permutation xs ys moves apart =
      let distinct = IsDistinct-from_apart same_place xs (λ i j d lt below. ne_eqb _ _ (apart i j d lt below)) in
      let other = IsDistinct-IsPermutation same_place flips xs ys moves distinct in
      λ i j d lt below. eqb-false _ _ (apart_from_distinct same_place ys i j d other lt below)
    where
      flips : (a b : Block) → same_place a b ≡ same_place b a
      flips a b = ⊎_elim (λ same. eq-eqb a.at b.at same ∙ sym (eq-eqb b.at a.at (sym same))) (λ apart. ne_eqb a.at b.at apart ∙ sym (ne_eqb b.at a.at (λ same. apart (sym same)))) (cases_eq a.at b.at)

  -- blocks at fresh places differ from those in use
  new_apart : (used : List Block) (bs : List Block) → All (λ at. Contains (places_of used) at → ⊥) (places_of bs) → All (λ (b : Block). All (Differ b) used) bs
  new_apart used bs fresh = All-weaker (λ (b : Block). Contains (places_of used) b.at → ⊥) (λ b. All (Differ b) used)
      (λ b none. All-weaker (λ (x : Block). Contains (places_of used) x.at) (Differ b) (λ x there same. none (subst (Contains (places_of used)) (sym same) there)) used (all_mapped (Contains (places_of used)) (λ (x : Block). x.at) used (All-contains_itself (places_of used))))
      bs (all_mapped (λ (at : ℕ). Contains (places_of used) at → ⊥) (λ (b : Block). b.at) bs fresh)

  places_differ : (bs : List Block) → AllPairs (λ (a b : ℕ). a ≢ b) (places_of bs) → AllPairs Differ bs
  places_differ bs apart i j d lt below same =
      let long : length (places_of bs) ≡ length bs = length-map bs (λ (b : Block). b.at) in
      apart i j d.at lt (omega (arith, below, long)) (get_or-map (λ (b : Block). b.at) bs i d d.at (omega (arith, lt, below)) ∙ same ∙ sym (get_or-map (λ (b : Block). b.at) bs j d d.at below))

  -- the blocks in use after it are apart and on the disk
  pub committed_blocks : (size : ℕ) (metrics : List Shelved) → Rises (map number_of metrics) → metric_of c.metric metrics ≡ Some m → AreBlocks size metrics → All (IsInSlot size) (new_blocks c)
      → All (λ at. Contains (places_of (blocks_in_use metrics)) at → ⊥) (places_of (new_blocks c)) → AllPairs (λ (a b : ℕ). a ≢ b) (places_of (new_blocks c)) → AreBlocks size (after_record metrics (items.Commit c))
  committed_blocks size metrics rises there blocks slots fresh differ =
      let moves = all_moves metrics rises there in
      let used = blocks_in_use metrics in
      let after = blocks_in_use (after_record metrics (items.Commit c)) in
      record {
        each = all_back (IsInSlot size) gone after (All-permutation (IsInSlot size) (new_blocks c ++ used) (gone ++ after) moves (All-append (IsInSlot size) (new_blocks c) used slots blocks.each));
        apart = pairs-right Differ gone after
            (differ_permutation (new_blocks c ++ used) (gone ++ after) moves (pairs-append Differ (new_blocks c) used (places_differ (new_blocks c) differ) blocks.apart (new_apart used (new_blocks c) fresh)));
      }

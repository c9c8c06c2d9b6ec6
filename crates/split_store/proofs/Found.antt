-- What blocks hold is one, and what is damaged isn't held.
use Rattle.std.proofs.Common.{◌≡◌, ℕ, zero, suc, ◌+◌, ◌<◌, eqb, Bool, true, false, cond, List, [], ◌∷◌, ◌++◌, length, map, take, drop, get_or, Option, Some, None, option_to_list, refl, sym, ap, subst, ◌∙◌, append_assoc, arith}
use Rattle.std.specs.List.{AllZip, flat_map}
use Rattle.std.specs.List.Sorted.{IsStrictlyIncreasing}
use Rattle.std.proofs.lemmas.List.{take-append-drop, drop_more, drop_all, append-nil}
use Rattle.std.proofs.lemmas.List.Concat.{flat_map-append}
use Rattle.std.proofs.lemmas.Option.{get_or_from_slice_get, slice_get_within}
use Rattle.std.proofs.lemmas.Slice.Zip.{AllZip-long}
use Rattle.series_model.specs.declared.measure.Measure.{Measure}
use Rattle.series_model.specs.declared.metric.MetricId.{MetricId}
use Rattle.series_model.specs.Tail.{Tail, last_onto, last_time}
use Rattle.series_model.proofs.Rising.{Above, Rises, Rises_from_rising, rising_from_Rises, times}
use Rattle.gno_codec.specs.declared.item.Block.{Block}
use Rattle.gno_codec.proofs.BlockRecords.{raw_field}
use Rattle.gno_codec.proofs.Steps.{one_spelling}
use Rattle.split_update.specs.Live.{Live}
use Rattle.shelf_records.specs.Shelved.{Shelved, metric_of}
use Rattle.shelf_blocks.specs.Blocks.{HoldsChunk, HoldsMetric, HoldsMetrics, HoldsRaw}
use Rattle.shelf_blocks.specs.Damage.{IsDamagedRaw, IsOddChunk, unspelled, short, early, other_end}
use Rattle.shelf_blocks.proofs.Chunks.{last_time-behind}
use Rattle.split_store.specs.Shelf.{live_by}

-- ---- lists side by side

pub zip_at : {A B : Type 0} (R : A → B → Type 0) (xs : List A) (ys : List B) (i : ℕ) (d : A) (e : B) → AllZip R xs ys → i < length xs → R (get_or xs i d) (get_or ys i e)
zip_at R [] [] i d e all lt = absurd (omega (arith, lt))
zip_at R [] (y ∷ ys) i d e all lt = absurd all
zip_at R (x ∷ xs) [] i d e all lt = absurd all
zip_at R (x ∷ xs) (y ∷ ys) zero d e all lt = all.0
zip_at R (x ∷ xs) (y ∷ ys) (suc i) d e all lt = zip_at R xs ys i d e all.1 (omega (arith, lt))

-- ---- chunks and raw series

-- times that rise from a measure on rise from the last of some of them on
rises_behind : (before : Option Measure) (xs ys : List Measure) → Rises (times (option_to_list before ++ (xs ++ ys))) → Rises (times (option_to_list (last_onto before xs) ++ ys))
rises_behind before [] ys rises = rises
rises_behind None (x ∷ xs) ys rises = rises_behind (Some x) xs ys rises
rises_behind (Some b) (x ∷ xs) ys rises = rises_behind (Some x) xs ys rises.1

above_front : (low : ℕ) (xs ys : List Measure) → Above low (times (xs ++ ys)) → Above low (times xs)
above_front low [] ys above = tt
above_front low (x ∷ xs) ys above = (above.0, above_front low xs ys above.1)

rises_front : (xs ys : List Measure) → Rises (times (xs ++ ys)) → Rises (times xs)
rises_front [] ys rises = tt
rises_front (x ∷ xs) ys rises = (above_front x.at xs ys rises.0, rises_front xs ys rises.1)

module _ (z : List ℕ) where
  one_chunk : (b : Block) (x y : List Measure) → HoldsChunk z b x → HoldsChunk z b y → x ≡ y
  one_chunk b x y p q = one_spelling raw_field x y p.is q.is (sym p.stands.here ∙ q.stands.here)

  same_chunks : (bs : List Block) (xs ys : List (List Measure)) → AllZip (HoldsChunk z) bs xs → AllZip (HoldsChunk z) bs ys → xs ≡ ys
  same_chunks [] [] [] p q = refl
  same_chunks [] [] (y ∷ ys) p q = absurd q
  same_chunks [] (x ∷ xs) ys p q = absurd p
  same_chunks (b ∷ bs) [] ys p q = absurd p
  same_chunks (b ∷ bs) (x ∷ xs) [] p q = absurd q
  same_chunks (b ∷ bs) (x ∷ xs) (y ∷ ys) p q =
      ap (λ (c : List Measure). c ∷ xs) (one_chunk b x y p.0 q.0) ∙ ap (λ (cs : List (List Measure)). y ∷ cs) (same_chunks bs xs ys p.1 q.1)

  front_zip : (n : ℕ) (bs : List Block) (xs : List (List Measure)) → AllZip (HoldsChunk z) bs xs → AllZip (HoldsChunk z) (take n bs) (take n xs)
  front_zip zero bs xs all = tt
  front_zip (suc n) [] [] all = tt
  front_zip (suc n) [] (x ∷ xs) all = absurd all
  front_zip (suc n) (b ∷ bs) [] all = absurd all
  front_zip (suc n) (b ∷ bs) (x ∷ xs) all = (all.0, front_zip n bs xs all.1)

  pub one_raw : (bs : List Block) (anchor : Option Measure) (last : Option ℕ) (r s : Tail) → HoldsRaw z bs anchor last r → HoldsRaw z bs anchor last s → r ≡ s
  one_raw bs anchor last r s p q =
      let points : r.points ≡ s.points = sym p.are.whole ∙ ap (flat_map (λ (c : List Measure). c)) (same_chunks bs p.chunks q.chunks p.stand q.stand) ∙ q.are.whole in
      let a : r.anchor ≡ s.anchor = p.anchor ∙ sym q.anchor in
      let l : r.last ≡ s.last = p.last ∙ sym q.last in
      ap (λ (x : List Measure). record { points = x; anchor = r.anchor; last = r.last }) points
      ∙ ap (λ (x : Option Measure). record { points = s.points; anchor = x; last = r.last }) a
      ∙ ap (λ (x : Option ℕ). record { points = s.points; anchor = s.anchor; last = x }) l

  -- a raw series that is held has no damaged chunk
  pub raw_never_odd : (bs : List Block) (anchor : Option Measure) (last : Option ℕ) (raw : Tail) (at : ℕ) → HoldsRaw z bs anchor last raw → IsDamagedRaw z bs anchor last at → ⊥
  raw_never_odd bs anchor last raw at holds damaged =
      let n = length damaged.chunks in
      let b = damaged.block in
      let cs = holds.chunks in
      let within : n < length bs = slice_get_within bs n b damaged.there in
      let long : length cs ≡ length bs = AllZip-long (HoldsChunk z) bs cs holds.stand in
      let chunk = get_or cs n [] in
      let block_is : get_or bs n b ≡ b = get_or_from_slice_get bs n b b damaged.there in
      let here : HoldsChunk z b chunk = subst (λ (x : Block). HoldsChunk z x chunk) block_is (zip_at (HoldsChunk z) bs cs n b [] holds.stand within) in
      let front : take n cs ≡ damaged.chunks = same_chunks (take n bs) (take n cs) damaged.chunks (front_zip n bs cs holds.stand) damaged.before in
      let rest = drop (n + 1) cs in
      let parts : cs ≡ damaged.chunks ++ chunk ∷ rest =
      sym (take-append-drop n cs) ∙ ap (λ (l : List (List Measure)). take n cs ++ l) (drop_more cs n [] (omega (arith, within, long))) ∙ ap (λ (l : List (List Measure)). l ++ chunk ∷ rest) front in
      let whole : raw.points ≡ flat_map (λ (c : List Measure). c) damaged.chunks ++ (chunk ++ flat_map (λ (c : List Measure). c) rest) =
      sym holds.are.whole ∙ ap (flat_map (λ (c : List Measure). c)) parts ∙ flat_map-append (λ (c : List Measure). c) damaged.chunks (chunk ∷ rest) in
      by damaged.odd chunk refl here whole
    where
      joined : List (List Measure) → List Measure
      joined chunks = flat_map (λ c. c) chunks

      by : IsOddChunk z (length bs) anchor last damaged.chunks damaged.block → (chunk : List Measure) → chunk ≡ get_or holds.chunks (length damaged.chunks) [] → HoldsChunk z damaged.block chunk
          → raw.points ≡ flat_map (λ c. c) damaged.chunks ++ (chunk ++ flat_map (λ c. c) (drop (length damaged.chunks + 1) holds.chunks)) → ⊥
      by (unspelled none) chunk is here whole = none chunk here
      by (short other there more ne) chunk is here whole =
          let long : length holds.chunks ≡ length bs = AllZip-long (HoldsChunk z) bs holds.chunks holds.stand in
          ne (ap length (one_chunk damaged.block other chunk there here ∙ is) ∙ holds.are.full (length damaged.chunks) (omega (arith, more, long)) [])
      by (early other there not_rising) chunk is here whole =
          let front = joined damaged.chunks in
          let rest = joined (drop (length damaged.chunks + 1) holds.chunks) in
          let all : Rises (times (option_to_list anchor ++ (front ++ (chunk ++ rest)))) = Rises_from_rising (times (option_to_list anchor ++ (front ++ (chunk ++ rest))))
          (subst (λ (l : List Measure). IsStrictlyIncreasing (map (λ m. m.at) l)) (ap (λ (a : Option Measure). option_to_list a ++ raw.points) holds.anchor ∙ ap (λ (ps : List Measure). option_to_list anchor ++ ps) whole) holds.series.rising) in
          let before = option_to_list (last_onto anchor front) in
          let behind : Rises (times ((before ++ chunk) ++ rest)) = subst (λ (l : List Measure). Rises (times l)) (sym (append_assoc before chunk rest)) (rises_behind anchor front (chunk ++ rest) all) in
          not_rising (subst (λ (c : List Measure). IsStrictlyIncreasing (map (λ p. p.at) (before ++ c))) (sym (one_chunk damaged.block other chunk there here))
          (rising_from_Rises (times (before ++ chunk)) (rises_front (before ++ chunk) rest behind)))
      by (other_end other there end ne) chunk is here whole =
          let front = joined damaged.chunks in
          let long : length holds.chunks ≡ length bs = AllZip-long (HoldsChunk z) bs holds.chunks holds.stand in
          let none : drop (length damaged.chunks + 1) holds.chunks ≡ [] = drop_all (length damaged.chunks + 1) holds.chunks (omega (arith, end, long)) in
          let points : raw.points ≡ front ++ chunk = whole ∙ ap (λ (cs : List (List Measure)). front ++ (chunk ++ joined cs)) none ∙ ap (λ (c : List Measure). front ++ c) (append-nil chunk) in
          ne (sym holds.last ∙ holds.series.last ∙ ap last_time points ∙ last_time-behind front chunk (omega (arith, here.is.rising.some)) ∙ ap last_time (sym (one_chunk damaged.block other chunk there here)))

-- ---- live metrics

-- a metric that is held has its live one
pub record IsHeldAs (z : List ℕ) (m : Shelved) (id : MetricId) (lives : List Live) : Type 0 where
  pub live : Live
  pub there : live_by id lives ≡ Some live
  pub holds : HoldsMetric z m live

pub live_held : (z : List ℕ) (metrics : List Shelved) (lives : List Live) (id : MetricId) (m : Shelved) → HoldsMetrics z metrics lives → metric_of id metrics ≡ Some m → IsHeldAs z m id lives
live_held z [] lives id m held found = absurd cc
live_held z (x ∷ metrics) [] id m held found = absurd held
live_held z (x ∷ metrics) (l ∷ lives) id m held found =
    by_test (eqb x.id.0 id.0) refl (live_held z metrics lives id m held.1) found (ap (λ (i : MetricId). eqb i.0 id.0) held.0.id)
  where
    by_test : (t : Bool) → eqb x.id.0 id.0 ≡ t → (metric_of id metrics ≡ Some m → IsHeldAs z m id lives) → cond t (Some x) (metric_of id metrics) ≡ Some m → eqb l.id.0 id.0 ≡ eqb x.id.0 id.0 → IsHeldAs z m id (l ∷ lives)
    by_test true e later found same = record {
      live = l;
      there = ap (λ (t : Bool). cond t (Some l) (live_by id lives)) (same ∙ e);
      holds = (let is : x ≡ m = cc in subst (λ (k : Shelved). HoldsMetric z k l) is held.0);
    }
    by_test false e later found same =
        let rest = later found in
        record { live = rest.live; there = ap (λ (t : Bool). cond t (Some l) (live_by id lives)) (same ∙ e) ∙ rest.there; holds = rest.holds }

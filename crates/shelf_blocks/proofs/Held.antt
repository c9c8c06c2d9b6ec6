-- What blocks hold of live metrics, and what a record or a write does to it.
use Rattle.std.proofs.Common.{◌≡◌, ℕ, suc, ◌≤◌, Bool, true, false, cond, List, [], ◌∷◌, ◌++◌, map, Option, refl, sym, subst, arith}
use Rattle.std.specs.List.{All, AllZip, filter, flat_map}
use Rattle.std.proofs.lemmas.List.Elements.{All-cons, All-nil}
use Rattle.archive_policy.specs.Policies.{ArchivePolicy}
use Rattle.series_model.specs.declared.measure.Measure.{Measure}
use Rattle.series_model.specs.declared.point.Split.{Split}
use Rattle.series_model.specs.Tail.{Tail}
use Rattle.gno_codec.specs.declared.item.Block.{Block}
use Rattle.gno_codec.specs.declared.item.ShelfItem.{ShelfItem}
use Rattle.shelf_records.specs.declared.series.Stored.{Stored}
use Rattle.shelf_records.specs.Shelved.{AreBlocks, AreLegal, Kept, MayFollow, Shelved, after_record, after_records, blocks_in_use, blocks_of_metric}
use Rattle.split_update.specs.Live.{Live}
use Rattle.block_slots.specs.Slots.{IsBeside, Spares}
use Rattle.shelf_blocks.specs.Blocks.{HoldsChunk, HoldsMetric, HoldsMetrics, HoldsRaw, HoldsSplit, HoldsSplits}

-- ---- lists side by side

pub zip_filter : {A B : Type 0} (R : A → B → Type 0) (p : A → Bool) (q : B → Bool) → ((x : A) (y : B) → R x y → q y ≡ p x) → (xs : List A) (ys : List B) → AllZip R xs ys → AllZip R (filter p xs) (filter q ys)
zip_filter R p q same [] [] all = tt
zip_filter R p q same [] (y ∷ ys) all = absurd all
zip_filter R p q same (x ∷ xs) [] all = absurd all
zip_filter {A} {B} R p q same (x ∷ xs) (y ∷ ys) all = by_test (p x) (q y) (same x y all.0) (zip_filter R p q same xs ys all.1)
  where
    by_test : (a b : Bool) → b ≡ a → AllZip R (filter p xs) (filter q ys) → AllZip R (cond a (x ∷ filter p xs) (filter p xs)) (cond b (y ∷ filter q ys) (filter q ys))
    by_test true b e rest = subst (λ (c : Bool). AllZip R (x ∷ filter p xs) (cond c (y ∷ filter q ys) (filter q ys))) (sym e) (all.0, rest)
    by_test false b e rest = subst (λ (c : Bool). AllZip R (filter p xs) (cond c (y ∷ filter q ys) (filter q ys))) (sym e) rest

pub zip_append : {A B : Type 0} (R : A → B → Type 0) (xs vs : List A) (ys ws : List B) → AllZip R xs ys → AllZip R vs ws → AllZip R (xs ++ vs) (ys ++ ws)
zip_append R [] vs [] ws all more = more
zip_append R [] vs (y ∷ ys) ws all more = absurd all
zip_append R (x ∷ xs) vs [] ws all more = absurd all
zip_append R (x ∷ xs) vs (y ∷ ys) ws all more = (all.0, zip_append R xs vs ys ws all.1 more)

-- what follows item by item, where the first list has P
pub zip_with : {A B : Type 0} (P : A → Type 0) (R S : A → B → Type 0) (xs : List A) (ys : List B) → All P xs → ((x : A) (y : B) → P x → R x y → S x y) → AllZip R xs ys → AllZip S xs ys
zip_with P R S [] [] each then all = tt
zip_with P R S [] (y ∷ ys) each then all = absurd all
zip_with P R S (x ∷ xs) [] each then all = absurd all
zip_with P R S (x ∷ xs) (y ∷ ys) each then all =
    (then x y (each 0 x (omega arith)) all.0, zip_with P R S xs ys (λ k d lt. each (suc k) d (omega (arith, lt))) then all.1)

-- ---- all of parts

pub all_front : {X : Type 0} (P : X → Type 0) (xs ys : List X) → All P (xs ++ ys) → All P xs
all_front P [] ys all = All-nil P
all_front P (x ∷ xs) ys all = All-cons P x xs (all 0 x (omega arith)) (all_front P xs ys (λ k d lt. all (suc k) d (omega (arith, lt))))

pub all_back : {X : Type 0} (P : X → Type 0) (xs ys : List X) → All P (xs ++ ys) → All P ys
all_back P [] ys all = all
all_back P (x ∷ xs) ys all = all_back P xs ys (λ k d lt. all (suc k) d (omega (arith, lt)))

-- each part of what all parts give
pub all_parts : {X Y : Type 0} (P : Y → Type 0) (f : X → List Y) (xs : List X) → All P (flat_map f xs) → All (λ x. All P (f x)) xs
all_parts P f [] all = All-nil (λ x. All P (f x))
all_parts P f (x ∷ xs) all = All-cons (λ y. All P (f y)) x xs (all_front P (f x) (flat_map f xs) all) (all_parts P f xs (all_back P (f x) (flat_map f xs) all))

pub all_mapped : {X Y : Type 0} (P : Y → Type 0) (f : X → Y) (xs : List X) → All P (map f xs) → All (λ x. P (f x)) xs
all_mapped P f [] all = All-nil (λ x. P (f x))
all_mapped P f (x ∷ xs) all = All-cons (λ y. P (f y)) x xs (all 0 (f x) (omega arith)) (all_mapped P f xs (λ k d lt. all (suc k) d (omega (arith, lt))))

-- ---- writes beside the blocks in use

-- a block is beside the slots at these places
abbrev pub IsApart : List ℕ → Block → Type 0
IsApart places block = All (IsBeside block) places

module _ (places : List ℕ) (old new : List ℕ) (spares : Spares places old new) where
  chunk_stays : (b : Block) (chunk : List Measure) → IsApart places b → HoldsChunk old b chunk → HoldsChunk new b chunk
  chunk_stays b chunk apart holds = record { is = holds.is; stands = spares.stands b _ apart holds.stands }

  split_stays : (g : ℕ) (s : Stored) (split : Split) → IsApart places s.block → HoldsSplit old g s split → HoldsSplit new g s split
  split_stays g s split apart holds = record { key = holds.key; is = holds.is; stands = spares.stands s.block _ apart holds.stands }

  raw_stays : (blocks : List Block) (anchor : Option Measure) (last : Option ℕ) (raw : Tail) → All (IsApart places) blocks → HoldsRaw old blocks anchor last raw → HoldsRaw new blocks anchor last raw
  raw_stays blocks anchor last raw apart holds = record {
    chunks = holds.chunks;
    stand = zip_with (IsApart places) (HoldsChunk old) (HoldsChunk new) blocks holds.chunks apart chunk_stays holds.stand;
    are = holds.are;
    anchor = holds.anchor;
    last = holds.last;
    series = holds.series;
  }

  pub splits_stay : (policy : ArchivePolicy) (kept : Kept) (splits : List Split) → All (IsApart places) (map (λ s. s.block) kept.splits) → HoldsSplits old policy kept splits → HoldsSplits new policy kept splits
  splits_stay policy kept splits apart holds = record {
    definition = holds.definition;
    there = holds.there;
    each = zip_with (λ s. IsApart places s.block) (HoldsSplit old holds.definition.granularity) (HoldsSplit new holds.definition.granularity) kept.splits splits
        (all_mapped (IsApart places) (λ s. s.block) kept.splits apart) (split_stays holds.definition.granularity) holds.each;
  }

  metric_stays : (m : Shelved) (live : Live) → All (IsApart places) (blocks_of_metric m) → HoldsMetric old m live → HoldsMetric new m live
  metric_stays m live apart holds = record {
    id = holds.id;
    policy = holds.policy;
    done = holds.done;
    raw = raw_stays m.chunks m.anchor m.last live.raw (all_front (IsApart places) m.chunks (flat_map (λ k. map (λ s. s.block) k.splits) m.kept) apart) holds.raw;
    splits = zip_with (λ k. All (IsApart places) (map (λ s. s.block) k.splits)) (HoldsSplits old m.policy) (HoldsSplits new m.policy) m.kept live.splits
        (all_parts (IsApart places) (λ k. map (λ s. s.block) k.splits) m.kept (all_back (IsApart places) m.chunks (flat_map (λ k. map (λ s. s.block) k.splits) m.kept) apart)) (splits_stay m.policy) holds.splits;
  }

  -- what was held is held still
  pub metrics_stay : (metrics : List Shelved) (lives : List Live) → All (IsApart places) (blocks_in_use metrics) → HoldsMetrics old metrics lives → HoldsMetrics new metrics lives
  metrics_stay metrics lives apart holds =
      zip_with (λ m. All (IsApart places) (blocks_of_metric m)) (HoldsMetric old) (HoldsMetric new) metrics lives (all_parts (IsApart places) blocks_of_metric metrics apart) metric_stays holds

-- ---- records one after another

pub records_more : (metrics : List Shelved) (items : List ShelfItem) (item : ShelfItem) → after_records metrics (items ++ item ∷ []) ≡ after_record (after_records metrics items) item
records_more metrics [] item = refl
records_more metrics (i ∷ items) item = records_more (after_record metrics i) items item

pub legal_more : (size : ℕ) (metrics : List Shelved) (items : List ShelfItem) (item : ShelfItem) → AreLegal size metrics items → MayFollow (after_records metrics items) item → AreBlocks size (after_record (after_records metrics items) item) → AreLegal size metrics (items ++ item ∷ [])
legal_more size metrics [] item legal follows blocks = (follows, blocks, tt)
legal_more size metrics (i ∷ items) item legal follows blocks = (legal.0, legal.1, legal_more size (after_record metrics i) items item legal.2 follows blocks)

blocks_longer : (size longer : ℕ) (metrics : List Shelved) → size ≤ longer → AreBlocks size metrics → AreBlocks longer metrics
blocks_longer size longer metrics le blocks = record {
  each = λ k d lt. (let b = blocks.each k d lt in record { begins = b.begins; short = b.short; within = (let w = b.within in omega (arith, w, le)) });
  apart = blocks.apart;
}

-- on a longer disk too
pub legal_longer : (size longer : ℕ) (metrics : List Shelved) (items : List ShelfItem) → size ≤ longer → AreLegal size metrics items → AreLegal longer metrics items
legal_longer size longer metrics [] le legal = tt
legal_longer size longer metrics (i ∷ items) le legal =
    (legal.0, blocks_longer size longer (after_record metrics i) le legal.1, legal_longer size longer (after_record metrics i) items le legal.2)

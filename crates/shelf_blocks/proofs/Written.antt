-- What written pieces hold.
use Rattle.std.proofs.Common.{ℕ, zero, suc, ◌-◌, List, [], ◌∷◌, ◌++◌, length, map, take, drop, replicate, refl, sym, ap, subst, ◌∙◌, arith}
use Rattle.std.specs.List.{All, AllZip}
use Rattle.std.proofs.lemmas.List.{take-take, take_at}
use Rattle.series_model.specs.declared.measure.Measure.{Measure}
use Rattle.series_model.specs.declared.point.Split.{Split}
use Rattle.series_model.specs.Tail.{Tail}
use Rattle.shelf_records.specs.declared.series.Stored.{Stored}
use Rattle.shelf_records.specs.Shelved.{slot}
use Rattle.block_slots.specs.declared.slots.Piece.{Piece}
use Rattle.block_slots.specs.Slots.{FillsSlot, FitsSlot, Stands}
use Rattle.shelf_blocks.specs.Blocks.{HoldsChunk, HoldsRaw, HoldsSplit, IsRaw}
use Rattle.shelf_blocks.specs.Pieces.{AreChunkPieces, AreSplitPieces, IsChunkPiece, IsSplitPiece, all_stored_as, block_of}
use Rattle.shelf_blocks.proofs.Held.{zip_append}

-- the block of a piece stands where its slot is filled
pub piece_stands : (z : List ℕ) (p : Piece) → FitsSlot p → FillsSlot z p → Stands z (block_of p) p.bytes.items
piece_stands z p fits fills = record {
  whole = refl;
  here =
      let n = length p.bytes.items in
      sym (take-take n slot (drop p.at z) fits) ∙ ap (take n) fills.here ∙ take_at p.bytes.items (replicate (slot - n) 0) n refl;
}

-- the first of all, and the rest
head_of : {X : Type 0} (P : X → Type 0) (x : X) (xs : List X) → All P (x ∷ xs) → P x
head_of P x xs all = all 0 x (omega arith)

rest_of : {X : Type 0} (P : X → Type 0) (x : X) (xs : List X) → All P (x ∷ xs) → All P xs
rest_of P x xs all k d lt = all (suc k) d (omega (arith, lt))

module _ (z : List ℕ) where
  chunks_stand : (pieces : List Piece) (chunks : List (List Measure)) → AllZip IsChunkPiece pieces chunks → All (FillsSlot z) pieces → AllZip (HoldsChunk z) (map block_of pieces) chunks
  chunks_stand [] [] each fills = tt
  chunks_stand [] (c ∷ chunks) each fills = absurd each
  chunks_stand (p ∷ pieces) [] each fills = absurd each
  chunks_stand (p ∷ pieces) (c ∷ chunks) each fills = (
    record { is = each.0.is; stands = subst (Stands z (block_of p)) each.0.bytes (piece_stands z p each.0.piece.fits (head_of (FillsSlot z) p pieces fills)) },
    chunks_stand pieces chunks each.1 (rest_of (FillsSlot z) p pieces fills),
  )

  -- the raw series whose chunks were written
  pub raw_written : (raw : Tail) (places : List ℕ) (pieces : List Piece) → AreChunkPieces raw.points places pieces → All (FillsSlot z) pieces → IsRaw raw → HoldsRaw z (map block_of pieces) raw.anchor raw.last raw
  raw_written raw places pieces cut fills series = record {
    chunks = cut.chunks;
    stand = chunks_stand pieces cut.chunks cut.each fills;
    are = cut.are;
    anchor = refl;
    last = refl;
    series = series;
  }

  splits_stand : (g : ℕ) (splits : List Split) (pieces : List Piece) → AllZip (IsSplitPiece g) splits pieces → All (FillsSlot z) pieces → AllZip (HoldsSplit z g) (all_stored_as splits pieces) splits
  splits_stand g [] [] each fills = tt
  splits_stand g [] (p ∷ pieces) each fills = absurd each
  splits_stand g (s ∷ splits) [] each fills = absurd each
  splits_stand g (s ∷ splits) (p ∷ pieces) each fills = (
    record { key = refl; is = each.0.is; stands = subst (Stands z (block_of p)) each.0.bytes (piece_stands z p each.0.piece.fits (head_of (FillsSlot z) p pieces fills)) },
    splits_stand g splits pieces each.1 (rest_of (FillsSlot z) p pieces fills),
  )

  -- the splits that were written
  pub splits_written : (g : ℕ) (splits : List Split) (places : List ℕ) (pieces : List Piece) (stored : List Stored) → AreSplitPieces g splits places pieces stored → All (FillsSlot z) pieces → AllZip (HoldsSplit z g) stored splits
  splits_written g splits places pieces stored written fills =
      subst (λ (l : List Stored). AllZip (HoldsSplit z g) l splits) (sym written.stored_are) (splits_stand g splits pieces written.each fills)

-- ---- parts of lists side by side

zip_take : {A B : Type 0} (R : A → B → Type 0) (n : ℕ) (xs : List A) (ys : List B) → AllZip R xs ys → AllZip R (take n xs) (take n ys)
zip_take R zero xs ys all = tt
zip_take R (suc n) [] [] all = tt
zip_take R (suc n) [] (y ∷ ys) all = absurd all
zip_take R (suc n) (x ∷ xs) [] all = absurd all
zip_take R (suc n) (x ∷ xs) (y ∷ ys) all = (all.0, zip_take R n xs ys all.1)

zip_drop : {A B : Type 0} (R : A → B → Type 0) (n : ℕ) (xs : List A) (ys : List B) → AllZip R xs ys → AllZip R (drop n xs) (drop n ys)
zip_drop R zero xs ys all = all
zip_drop R (suc n) [] [] all = tt
zip_drop R (suc n) [] (y ∷ ys) all = absurd all
zip_drop R (suc n) (x ∷ xs) [] all = absurd all
zip_drop R (suc n) (x ∷ xs) (y ∷ ys) all = zip_drop R n xs ys all.1

-- what a turn leaves of a series: the old splits that stay, and those that were written
pub series_written : (z : List ℕ) (g first until : ℕ) (stored new : List Stored) (old made : List Split) → AllZip (HoldsSplit z g) stored old → AllZip (HoldsSplit z g) new made
    → AllZip (HoldsSplit z g) (drop first (take until stored) ++ new) (drop first (take until old) ++ made)
series_written z g first until stored new old made stand next =
    zip_append (HoldsSplit z g) (drop first (take until stored)) new (drop first (take until old)) made
    (zip_drop (HoldsSplit z g) first (take until stored) (take until old) (zip_take (HoldsSplit z g) until stored old stand)) next

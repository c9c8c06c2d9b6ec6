-- Pieces for chunks and splits.
use Rattle.std.proofs.Common.{◌≡◌, ℕ, ◌+◌, ◌<◌, ◌≤◌, min, List, [], ◌∷◌, ◌++◌, length, map, take, drop, slice_index_or, inl, inr, refl, sym, ap, subst, ◌∙◌, arith, append_assoc, length-append, length-drop, length-take}
use Rattle.std.specs.List.{AllZip, flat_map}
use Rattle.std.specs.List.Sorted.{IsStrictlyIncreasing}
use Rattle.std.proofs.lemmas.Bool.{cases_lt}
use Rattle.std.proofs.lemmas.List.{append-nil, take_more, take_all, take-append-drop, length-take-le, get_or_append_left, map-append, length-map}
use Rattle.std.proofs.lemmas.List.Concat.{flat_map-append}
use Rattle.std.proofs.lemmas.Slice.Zip.{AllZip-long}
use Rattle.std.proofs.Math.Seq.{get_or-append_seam}
use Rattle.series_model.specs.declared.measure.Measure.{Measure}
use Rattle.series_model.specs.declared.point.Split.{Split}
use Rattle.series_model.proofs.Rising.{Above, Rises, Rises_from_rising, rising_from_Rises}
use Rattle.gno_codec.specs.Blocks.{IsRising}
use Rattle.shelf_records.specs.declared.series.Stored.{Stored}
use Rattle.block_slots.specs.declared.slots.Piece.{Piece}
use Rattle.shelf_blocks.specs.Pieces.{AreChunkPieces, AreCut, AreEnough, AreSplitPieces, IsChunkPiece, IsSplitPiece, all_stored_as, stored_as}
use Rattle.shelf_blocks.proofs.Chunks.{zip_more}

-- ---- parts of what rises

above_front : (x : ℕ) (xs ys : List ℕ) → Above x (xs ++ ys) → Above x xs
above_front x [] ys above = tt
above_front x (y ∷ xs) ys above = (above.0, above_front x xs ys above.1)

pub rises_front : (xs ys : List ℕ) → Rises (xs ++ ys) → Rises xs
rises_front [] ys rises = tt
rises_front (x ∷ xs) ys rises = (above_front x xs ys rises.0, rises_front xs ys rises.1)

pub rises_back : (xs ys : List ℕ) → Rises (xs ++ ys) → Rises ys
rises_back [] ys rises = rises
rises_back (x ∷ xs) ys rises = rises_back xs ys rises.1

cut_rises : (n : ℕ) (ms : List Measure) → IsStrictlyIncreasing (map (λ m. m.at) ms) → Rises (map (λ m. m.at) (take n ms) ++ map (λ m. m.at) (drop n ms))
cut_rises n ms rising =
    subst Rises (ap (map (λ m. m.at)) (sym (take-append-drop n ms)) ∙ map-append (λ m. m.at) (take n ms) (drop n ms)) (Rises_from_rising (map (λ m. m.at) ms) rising)

rising_front : (n : ℕ) (ms : List Measure) → IsStrictlyIncreasing (map (λ m. m.at) ms) → IsStrictlyIncreasing (map (λ m. m.at) (take n ms))
rising_front n ms rising = rising_from_Rises (map (λ m. m.at) (take n ms)) (rises_front (map (λ m. m.at) (take n ms)) (map (λ m. m.at) (drop n ms)) (cut_rises n ms rising))

rising_back : (n : ℕ) (ms : List Measure) → IsStrictlyIncreasing (map (λ m. m.at) ms) → IsStrictlyIncreasing (map (λ m. m.at) (drop n ms))
rising_back n ms rising = rising_from_Rises (map (λ m. m.at) (drop n ms)) (rises_back (map (λ m. m.at) (take n ms)) (map (λ m. m.at) (drop n ms)) (cut_rises n ms rising))

-- ---- chunks

pub cut_nothing : (points : List Measure) (places : List ℕ) → IsStrictlyIncreasing (map (λ m. m.at) points) → AreEnough (length points) (length places) → AreCut points places 0 points []
cut_nothing points places rising enough = record {
  chunks = [];
  each = tt;
  whole = refl;
  full = λ k more lt d. absurd (omega (arith, lt));
  places_are = refl;
  left = record { enough = let e = enough.enough in omega (arith, e); needed = let n = enough.needed in omega (arith, n) };
  rising = rising;
}

-- the next chunk
pub chunk_rising : (points : List Measure) (places : List ℕ) (i n : ℕ) (rest : List Measure) (pieces : List Piece) → i < length places → n ≡ min (length rest) 3600 → AreCut points places i rest pieces → IsRising (take n rest)
chunk_rising points places i n rest pieces lt is cut = record {
  some = (let needed = cut.left.needed in omega (arith, lt, needed, is, length-take n rest));
  few = omega (arith, is, length-take n rest);
  rising = rising_front n rest cut.rising;
}

pub cut_more : (points : List Measure) (places : List ℕ) (i n : ℕ) (rest : List Measure) (pieces : List Piece) (p : Piece) → i < length places → n ≡ min (length rest) 3600 → p.at ≡ slice_index_or places i p.at
    → IsChunkPiece p (take n rest) → AreCut points places i rest pieces → AreCut points places (i + 1) (drop n rest) (pieces ++ p ∷ [])
cut_more points places i n rest pieces p lt is at piece cut = record {
  chunks = cut.chunks ++ take n rest ∷ [];
  each = zip_more IsChunkPiece pieces cut.chunks p (take n rest) cut.each piece;
  whole =
      ap (λ (ms : List Measure). ms ++ drop n rest) (flat_map-append (λ (c : List Measure). c) cut.chunks (take n rest ∷ []) ∙ ap (λ (ms : List Measure). flat_map (λ (c : List Measure). c) cut.chunks ++ ms) (append-nil (take n rest)))
      ∙ append_assoc (flat_map (λ (c : List Measure). c) cut.chunks) (take n rest) (drop n rest) ∙ ap (λ (ms : List Measure). flat_map (λ (c : List Measure). c) cut.chunks ++ ms) (take-append-drop n rest) ∙ cut.whole;
  full = each_full;
  places_are = map-append (λ (q : Piece). q.at) pieces (p ∷ []) ∙ ap (λ (ns : List ℕ). ns ++ p.at ∷ []) cut.places_are ∙ sym (take_more places i p.at lt ∙ ap (λ (m : ℕ). take i places ++ m ∷ []) (sym at));
  left = record {
    enough = (let e = cut.left.enough in omega (arith, e, is, lt, length-drop n rest));
    needed = (let m = cut.left.needed in omega (arith, m, is, lt, length-drop n rest));
  };
  rising = rising_back n rest cut.rising;
}
  where
    count : length cut.chunks ≡ i
    count = AllZip-long IsChunkPiece pieces cut.chunks cut.each ∙ sym (length-map pieces (λ (q : Piece). q.at)) ∙ ap length cut.places_are ∙ length-take-le i places (omega (arith, lt))

    each_full : (k : ℕ) → k + 1 < length places → k < length (cut.chunks ++ take n rest ∷ []) → (d : List Measure) → length (slice_index_or (cut.chunks ++ take n rest ∷ []) k d) ≡ 3600
    each_full k more less d = elim (cases_lt k (length cut.chunks)) [
      | inl lt' ↦ ap (λ (c : List Measure). length c) (get_or_append_left cut.chunks (take n rest ∷ []) d k lt') ∙ cut.full k more lt' d
      | inr ge ↦ (let here : k ≡ length cut.chunks = omega (arith, ge, less, length-append cut.chunks (take n rest ∷ [])) in
          let needed = cut.left.needed in
          let c = count in
          ap (λ (m : ℕ). length (slice_index_or (cut.chunks ++ take n rest ∷ []) m d)) here ∙ ap (λ (c : List Measure). length c) (get_or-append_seam cut.chunks (take n rest) [] d)
          ∙ (let e : length (take n rest) ≡ 3600 = omega (arith, needed, is, more, here, c, length-take n rest) in e))
    ]

pub cut_all : (points : List Measure) (places : List ℕ) (i : ℕ) (rest : List Measure) (pieces : List Piece) → length places ≤ i → AreCut points places i rest pieces → AreChunkPieces points places pieces
cut_all points places i rest pieces end cut = record {
  chunks = cut.chunks;
  each = cut.each;
  are = record {
    whole = sym (append-nil (flat_map (λ (c : List Measure). c) cut.chunks)) ∙ ap (λ (ms : List Measure). flat_map (λ (c : List Measure). c) cut.chunks ++ ms) (sym none) ∙ cut.whole;
    full = λ k more d. cut.full k (omega (arith, more, count)) (omega (arith, more)) d;
  };
  places_are = cut.places_are ∙ take_all i places end;
}
  where
    empty : (ms : List Measure) → length ms ≤ 0 → ms ≡ []
    empty [] le = refl
    empty (m ∷ ms) le = absurd (omega (arith, le))

    none : rest ≡ []
    none = empty rest (let e = cut.left.enough in omega (arith, e, end))

    count : length cut.chunks ≤ length places
    count = let e = AllZip-long IsChunkPiece pieces cut.chunks cut.each ∙ sym (length-map pieces (λ (q : Piece). q.at)) ∙ ap length cut.places_are in omega (arith, e, length-take i places)

-- ---- splits

same_block : (key at at' len len' : ℕ) → at' ≡ at → len' ≡ len → let s : Stored = record { key = key; block = record { at = at; len = len } } in let t : Stored = record { key = key; block = record { at = at'; len = len' } } in s ≡ t
same_block key at at' len len' same_at same_len =
    ap (λ (n : ℕ). let s : Stored = record { key = key; block = record { at = n; len = len } } in s) (sym same_at) ∙ ap (λ (n : ℕ). let s : Stored = record { key = key; block = record { at = at'; len = n } } in s) (sym same_len)

pub piece_stored : (split : Split) (p : Piece) (at len : ℕ) → p.at ≡ at → len ≡ length p.bytes.items → let s : Stored = record { key = split.key; block = record { at = at; len = len } } in s ≡ stored_as split p
piece_stored split p at len same_at same_len = same_block split.key at p.at len (length p.bytes.items) same_at (sym same_len)

stored_more : (splits : List Split) (pieces : List Piece) (s : Split) (p : Piece) → length pieces ≡ length splits → all_stored_as (splits ++ s ∷ []) (pieces ++ p ∷ []) ≡ all_stored_as splits pieces ++ stored_as s p ∷ []
stored_more [] [] s p same = refl
stored_more [] (q ∷ pieces) s p same = absurd (omega (arith, same))
stored_more (t ∷ splits) [] s p same = absurd (omega (arith, same))
stored_more (t ∷ splits) (q ∷ pieces) s p same = ap (λ (l : List Stored). stored_as t q ∷ l) (stored_more splits pieces s p (omega (arith, same)))

pub no_splits : (g : ℕ) → AreSplitPieces g [] [] [] []
no_splits g = record { each = tt; places_are = refl; stored_are = refl }

pub split_more : (g : ℕ) (splits : List Split) (places : List ℕ) (i : ℕ) (s : Split) (p : Piece) (pieces : List Piece) (stored : List Stored) → i < length splits → length places ≡ length splits → s ≡ slice_index_or splits i s → p.at ≡ slice_index_or places i p.at
    → IsSplitPiece g s p → AreSplitPieces g (take i splits) (take i places) pieces stored → AreSplitPieces g (take (i + 1) splits) (take (i + 1) places) (pieces ++ p ∷ []) (stored ++ stored_as s p ∷ [])
split_more g splits places i s p pieces stored lt long s_is at piece so_far =
    let next : take (i + 1) splits ≡ take i splits ++ s ∷ [] = take_more splits i s lt ∙ ap (λ (x : Split). take i splits ++ x ∷ []) (sym s_is) in
    record {
      each = subst (λ (l : List Split). AllZip (IsSplitPiece g) l (pieces ++ p ∷ [])) (sym next) (zip_more (IsSplitPiece g) (take i splits) pieces s p so_far.each piece);
      places_are = map-append (λ (q : Piece). q.at) pieces (p ∷ []) ∙ ap (λ (ns : List ℕ). ns ++ p.at ∷ []) so_far.places_are ∙ sym (take_more places i p.at (omega (arith, lt, long)) ∙ ap (λ (m : ℕ). take i places ++ m ∷ []) (sym at));
      stored_are = ap (λ (l : List Stored). l ++ stored_as s p ∷ []) so_far.stored_are ∙ sym (ap (λ (l : List Split). all_stored_as l (pieces ++ p ∷ [])) next ∙ stored_more (take i splits) pieces s p (AllZip-long (IsSplitPiece g) (take i splits) pieces so_far.each));
    }

-- Chunks that were read one after another.
use Rattle.std.proofs.Common.{◌≡◌, ◌≢◌, ◌⊎◌, ℕ, ◌+◌, ◌-◌, ◌<◌, ◌≤◌, List, [], ◌∷◌, ◌++◌, length, map, take, slice_get, slice_index_or, eqb, true, false, Option, Some, None, IfSome, IsSome, option_map, option_to_list, inl, inr, refl, sym, ap, subst, ◌∙◌, arith, length-append}
use Rattle.std.specs.List.{AllZip}
use Rattle.std.specs.List.Sorted.{IsStrictlyIncreasing}
use Rattle.std.proofs.lemmas.List.{append-nil, length-take-le, take_all, take_more, get_or_append_left, get_or_default}
use Rattle.std.proofs.lemmas.Bool.{cases_lt, ne_eqb, eqb-true, eqb-false}
use Rattle.std.proofs.lemmas.Option.{slice_get-get_or}
use Rattle.std.proofs.Math.Seq.{get_or-append_seam}
use Rattle.std.proofs.lemmas.List.Concat.{flat_map-append}
use Rattle.std.proofs.lemmas.Slice.Zip.{AllZip-long}
use Rattle.series_model.specs.declared.measure.Measure.{Measure}
use Rattle.series_model.specs.Tail.{last_onto, last_time}
use Rattle.series_model.proofs.Rising.{Above-lower, Rises, Rises_from_rising, rising_from_Rises, times}
use Rattle.bound_series.proofs.Places.{last_at}
use Rattle.gno_codec.specs.declared.item.Block.{Block}
use Rattle.shelf_blocks.specs.Blocks.{HoldsChunk, HoldsRaw}
use Rattle.shelf_blocks.specs.Chunks.{AreRead, behind}
use Rattle.shelf_blocks.specs.Damage.{IsDamagedRaw, IsOddChunk, unspelled, short, early, other_end}
use Rattle.shelf_blocks.specs.BlockFaults.{MatchBlockFault}
use Rattle.shelf_blocks.specs.declared.fault.BlockFault.{BlockFault}
use Rattle.shelf_blocks.specs.declared.fault.BlockFault.TheVariants.{Failed, Damaged, Memory}

-- ---- times

pub last_onto-append : (before : Option Measure) (xs ys : List Measure) → last_onto before (xs ++ ys) ≡ last_onto (last_onto before xs) ys
last_onto-append before [] ys = refl
last_onto-append before (x ∷ xs) ys = last_onto-append (Some x) xs ys

-- times that rise up to the last one, and on from there
rises_on : (before : Option Measure) (xs ys : List Measure) → Rises (times (option_to_list before ++ xs)) → Rises (times (option_to_list (last_onto before xs) ++ ys)) → Rises (times (option_to_list before ++ (xs ++ ys)))
rises_on before [] ys first second = second
rises_on None (x ∷ xs) ys first second = rises_on (Some x) xs ys first second
rises_on (Some b) (x ∷ xs) ys first second =
    let rest = rises_on (Some x) xs ys first.1 second in
    ((first.0.0, Above-lower b.at x.at (times (xs ++ ys)) (let lt = first.0.0 in omega (arith, lt)) rest.0), rest)

pub rising_on : (anchor : Option Measure) (points chunk : List Measure) → IsStrictlyIncreasing (map (λ p. p.at) (option_to_list anchor ++ points)) → IsStrictlyIncreasing (behind (last_onto anchor points) chunk)
    → IsStrictlyIncreasing (map (λ p. p.at) (option_to_list anchor ++ (points ++ chunk)))
rising_on anchor points chunk first second =
    rising_from_Rises (times (option_to_list anchor ++ (points ++ chunk)))
    (rises_on anchor points chunk (Rises_from_rising (times (option_to_list anchor ++ points)) first) (Rises_from_rising (behind (last_onto anchor points) chunk) second))

pub rising_one : (anchor : Option Measure) → IsStrictlyIncreasing (map (λ p. p.at) (option_to_list anchor ++ []))
rising_one None = rising_from_Rises [] tt
rising_one (Some m) = rising_from_Rises (m.at ∷ []) (tt, tt)

-- the last of some measures
pub last_of_some : (anchor : Option Measure) (points : List Measure) (x : Measure) → 1 ≤ length points → x ≡ slice_index_or points (length points - 1) x → Some x ≡ last_onto anchor points
last_of_some anchor [] x some is = absurd (omega (arith, some))
last_of_some anchor (p ∷ points) x some is =
    ap Some is ∙ sym (slice_get-get_or (p ∷ points) (length (p ∷ points) - 1) x (omega arith)) ∙ last_at anchor p points

-- without chunks there is no last time
pub none_last : (last : Option ℕ) (blocks : List Block) → (IsSome last → blocks ≢ []) → length blocks ≡ 0 → last ≡ last_time []
none_last None blocks some none = refl
none_last (Some at) [] some none = absurd (some refl refl)
none_last (Some at) (b ∷ blocks) some none = absurd (omega (arith, none))

-- behind other measures, the last time of some is theirs
pub last_time-behind : (xs ys : List Measure) → 0 < length ys → last_time (xs ++ ys) ≡ last_time ys
last_time-behind xs [] some = absurd (omega (arith, some))
last_time-behind xs (y ∷ ys) some = ap (λ o. option_map (λ (m : Measure). m.at) o) (last_onto-append None xs (y ∷ ys))

-- ---- chunks

pub zip_more : {A B : Type 0} (R : A → B → Type 0) (xs : List A) (ys : List B) (x : A) (y : B) → AllZip R xs ys → R x y → AllZip R (xs ++ x ∷ []) (ys ++ y ∷ [])
zip_more R [] [] x y all has = (has, tt)
zip_more R [] (v ∷ ys) x y all has = absurd all
zip_more R (u ∷ xs) [] x y all has = absurd all
zip_more R (u ∷ xs) (v ∷ ys) x y all has = (all.0, zip_more R xs ys x y all.1 has)

module _ (z : List ℕ) (blocks : List Block) where
  pub read_nothing : AreRead z blocks 0 []
  read_nothing = record { chunks = []; stand = tt; whole = refl; full = λ k more lt d. absurd (omega (arith, lt)) }

  count_of : (i : ℕ) (points : List Measure) → i ≤ length blocks → (read : AreRead z blocks i points) → length read.chunks ≡ i
  count_of i points le read = AllZip-long (HoldsChunk z) (take i blocks) read.chunks read.stand ∙ length-take-le i blocks le

  pub read_more : (i : ℕ) (block : Block) (points chunk : List Measure) → i < length blocks → block ≡ slice_index_or blocks i block → AreRead z blocks i points → HoldsChunk z block chunk
      → (i + 1 < length blocks → length chunk ≡ 3600) → AreRead z blocks (i + 1) (points ++ chunk)
  read_more i block points chunk lt is read holds full =
      let count = count_of i points (omega (arith, lt)) read in
      record {
        chunks = read.chunks ++ chunk ∷ [];
        stand = subst (λ (bs : List Block). AllZip (HoldsChunk z) bs (read.chunks ++ chunk ∷ [])) (sym (take_more blocks i block lt ∙ ap (λ (b : Block). take i blocks ++ b ∷ []) (sym is)))
            (zip_more (HoldsChunk z) (take i blocks) read.chunks block chunk read.stand holds);
        whole = flat_map-append (λ (c : List Measure). c) read.chunks (chunk ∷ []) ∙ ap (λ (ps : List Measure). ps ++ (chunk ++ [])) read.whole ∙ ap (λ (c : List Measure). points ++ c) (append-nil chunk);
        full = λ k more less d. each_full count k more less d;
      }
    where
      each_full : length read.chunks ≡ i → (k : ℕ) → k + 1 < length blocks → k < length (read.chunks ++ chunk ∷ []) → (d : List Measure) → length (slice_index_or (read.chunks ++ chunk ∷ []) k d) ≡ 3600
      each_full count k more less d = elim (cases_lt k (length read.chunks)) [
        | inl lt' ↦ ap (λ (c : List Measure). length c) (get_or_append_left read.chunks (chunk ∷ []) d k lt') ∙ read.full k more lt' d
        | inr ge ↦ (let at : k ≡ length read.chunks = omega (arith, ge, less, length-append read.chunks (chunk ∷ [])) in
            ap (λ (n : ℕ). length (slice_index_or (read.chunks ++ chunk ∷ []) n d)) at ∙ ap (λ (c : List Measure). length c) (get_or-append_seam read.chunks chunk [] d) ∙ full (omega (arith, more, at, count)))
      ]

  pub read_all : (anchor : Option Measure) (last : Option ℕ) (points : List Measure) → AreRead z blocks (length blocks) points → IsStrictlyIncreasing (map (λ p. p.at) (option_to_list anchor ++ points)) → last ≡ last_time points
      → HoldsRaw z blocks anchor last (record { points = points; anchor = anchor; last = last })
  read_all anchor last points read rising end =
      let count = count_of (length blocks) points (omega arith) read in
      record {
        chunks = read.chunks;
        stand = subst (λ (bs : List Block). AllZip (HoldsChunk z) bs read.chunks) (take_all (length blocks) blocks (omega arith)) read.stand;
        are = record { whole = read.whole; full = λ k more d. read.full k (omega (arith, more, count)) (omega (arith, more)) d };
        anchor = refl;
        last = refl;
        series = record { rising = rising; last = end };
      }

  pub read_odd : (i : ℕ) (block : Block) (anchor : Option Measure) (last : Option ℕ) (points : List Measure) → i < length blocks → block ≡ slice_index_or blocks i block → (read : AreRead z blocks i points)
      → IsOddChunk z (length blocks) anchor last read.chunks block → IsDamagedRaw z blocks anchor last block.at
  read_odd i block anchor last points lt is read odd =
      let count = count_of i points (omega (arith, lt)) read in
      record {
        chunks = read.chunks;
        block = block;
        before = subst (λ (n : ℕ). AllZip (HoldsChunk z) (take n blocks) read.chunks) (sym count) read.stand;
        there = ap (slice_get blocks) count ∙ slice_get-get_or blocks i block lt ∙ ap Some (sym is);
        odd = odd;
        at_is = refl;
      }

-- ---- of what a disk tells

pub block_at : (blocks : List Block) (i : ℕ) (d : Block) → i < length blocks → slice_index_or blocks i d ≡ slice_index_or blocks i (slice_index_or blocks i d)
block_at blocks i d lt = get_or_default blocks i d (slice_index_or blocks i d) lt

pub told_more : (told : Option (List ℕ)) (blocks : List Block) (i : ℕ) (d : Block) (points chunk : List Measure) → i < length blocks → (eqb (i + 1) (length blocks) ≡ false → length chunk ≡ 3600)
    → IfSome told (λ z. AreRead z blocks i points) → IfSome told (λ z. HoldsChunk z (slice_index_or blocks i d) chunk) → IfSome told (λ z. AreRead z blocks (i + 1) (points ++ chunk))
told_more None blocks i d points chunk lt full read holds = tt
told_more (Some z) blocks i d points chunk lt full read holds =
    read_more z blocks i (slice_index_or blocks i d) points chunk lt (block_at blocks i d lt) read holds (λ less. full (ne_eqb (i + 1) (length blocks) (omega (arith, less))))

pub told_nothing : (told : Option (List ℕ)) (blocks : List Block) → IfSome told (λ z. AreRead z blocks 0 [])
told_nothing None blocks = tt
told_nothing (Some z) blocks = read_nothing z blocks

pub told_whole : (told : Option (List ℕ)) (blocks : List Block) (i : ℕ) (anchor : Option Measure) (last : Option ℕ) (points : List Measure) → i ≡ length blocks → IfSome told (λ z. AreRead z blocks i points)
    → IsStrictlyIncreasing (map (λ p. p.at) (option_to_list anchor ++ points)) → last ≡ last_time points → IfSome told (λ z. HoldsRaw z blocks anchor last (record { points = points; anchor = anchor; last = last }))
told_whole None blocks i anchor last points all read rising end = tt
told_whole (Some z) blocks i anchor last points all read rising end = read_all z blocks anchor last points (subst (λ n. AreRead z blocks n points) all read) rising end

-- a chunk that isn't the next one
pub told_odd : (told : Option (List ℕ)) (blocks : List Block) (i : ℕ) (d : Block) (anchor : Option Measure) (last : Option ℕ) (points chunk : List Measure) (before : Option Measure) → i < length blocks → before ≡ last_onto anchor points
    → IfSome told (λ z. AreRead z blocks i points) → IfSome told (λ z. HoldsChunk z (slice_index_or blocks i d) chunk)
    → (IsStrictlyIncreasing (behind before chunk) → ⊥) ⊎ (((eqb (i + 1) (length blocks) ≡ false) × (length chunk ≢ 3600)) ⊎ ((eqb (i + 1) (length blocks) ≡ true) × (last ≢ last_time chunk)))
    → IfSome told (λ z. IsDamagedRaw z blocks anchor last (slice_index_or blocks i d).at)
told_odd None blocks i d anchor last points chunk before lt is read holds why = tt
told_odd (Some z) blocks i d anchor last points chunk before lt is read holds why =
    let count = count_of z blocks i points (omega (arith, lt)) read in
    read_odd z blocks i (slice_index_or blocks i d) anchor last points lt (block_at blocks i d lt) read
    (elim why [
      | inl not_rising ↦ early chunk holds (λ rising. not_rising (subst (λ (o : Option Measure). IsStrictlyIncreasing (behind o chunk)) (ap (last_onto anchor) read.whole ∙ sym is) rising))
      | inr (inl many) ↦ short chunk holds (let ne = eqb-false (i + 1) (length blocks) many.0 in omega (arith, count, lt, ne)) many.1
      | inr (inr end) ↦ other_end chunk holds (let eq = eqb-true (i + 1) (length blocks) end.0 in omega (arith, count, eq)) end.1
    ])

-- a block that is no chunk
pub told_unspelled : (told : Option (List ℕ)) (blocks : List Block) (i : ℕ) (d : Block) (anchor : Option Measure) (last : Option ℕ) (points : List Measure) → i < length blocks
    → IfSome told (λ z. AreRead z blocks i points) → IfSome told (λ z. (chunk : List Measure) → HoldsChunk z (slice_index_or blocks i d) chunk → ⊥)
    → IfSome told (λ z. IsDamagedRaw z blocks anchor last (slice_index_or blocks i d).at)
told_unspelled None blocks i d anchor last points lt read none = tt
told_unspelled (Some z) blocks i d anchor last points lt read none =
    read_odd z blocks i (slice_index_or blocks i d) anchor last points lt (block_at blocks i d lt) read (unspelled none)

-- why a chunk wasn't read is why the series wasn't
pub chunk_fault : (e : BlockFault) {P P' : Type 0} (R : Type 0) (at : ℕ) (Q Q' : ℕ → Type 0) → (P → P') → (Q at → Q' at) → MatchBlockFault e P (λ a. (a ≡ at) × Q a) R → MatchBlockFault e P' Q' R
chunk_fault Failed R at Q Q' up over was = up was
chunk_fault (Damaged a) R at Q Q' up over was = subst Q' (sym was.0) (over (subst Q was.0 was.1))
chunk_fault Memory R at Q Q' up over was = was

-- What a commit is ready to write.
use Rattle.std.proofs.Common.{◌≡◌, ◌≢◌, ◌↔◌, Vec, Global, slice_get, slice_index, ℕ, suc, ◌+◌, ◌<◌, ◌≤◌, List, [], ◌∷◌, ◌++◌, length, map, Option, Some, None, option_map, option_to_list, refl, sym, ap, subst, ◌∙◌, arith}
use Rattle.std.specs.Prelude.{vec_capacity}
use Rattle.std.specs.Option.{IfSome, IsSome}
use Rattle.std.specs.List.{All, AllPairs, AllZip, flat_map}
use Rattle.std.specs.List.Sorted.{IsStrictlyIncreasing}
use Rattle.std.proofs.lemmas.List.{length-map, map-append}
use Rattle.std.proofs.lemmas.Option.{slice_get_within}
use Rattle.std.proofs.lemmas.List.Elements.{All-append, All-cons, All-head, All-map, All-nil, All-tail, All-weaker}
use Rattle.archive_policy.specs.Policies.{ArchivePolicy}
use Rattle.series_model.specs.declared.measure.Measure.{Measure}
use Rattle.series_model.specs.declared.point.Split.{Split}
use Rattle.series_model.specs.Tail.{last_onto, last_time}
use Rattle.bound_series.specs.Jobs.{IsPrepared, PreparedView}
use Rattle.split_update.specs.Live.{Live, after_commit, all_splits_after, series_under}
use Rattle.gno_codec.specs.declared.item.Block.{Block}
use Rattle.gno_codec.specs.declared.item.Change.{Change}
use Rattle.gno_codec.specs.declared.item.CommitItem.{CommitItem}
use Rattle.gno_codec.specs.declared.item.ShelfItem.TheVariants as items
use Rattle.gno_codec.specs.Shelf.{ComesBefore, HasLength, IsShelf, IsWritable, shelf_bytes}
use Rattle.shelf_records.specs.declared.moves.Move.{Move}
use Rattle.shelf_records.specs.declared.series.Stored.{Stored}
use Rattle.shelf_records.specs.Changes.{all_moved, blocks_of_changes}
use Rattle.shelf_records.specs.Filed.{IsFiled}
use Rattle.shelf_records.specs.Moves.{blocks_of_moves}
use Rattle.shelf_records.specs.Shelved.{FitsMetric, IsOfPolicy, Kept, Shelved, committed, kept_after, slot}
use Rattle.block_slots.specs.declared.slots.Piece.{Piece}
use Rattle.block_slots.specs.Slots.{FillsSlot, places_of}
use Rattle.shelf_blocks.specs.declared.turn.Made.{Made}
use Rattle.shelf_blocks.specs.Blocks.{HoldsMetric, HoldsRaw, HoldsSplits, IsRaw}
use Rattle.shelf_blocks.specs.Pieces.{AreChunkPieces, AreEnough, IsPiece, block_of}
use Rattle.shelf_blocks.specs.Turns.{AreMade, AreTurned}
use Rattle.shelf_blocks.proofs.Held.{all_front}
use Rattle.shelf_blocks.proofs.Written.{raw_written}
use Rattle.split_store.specs.declared.turn.Cut.{Cut}
use Rattle.split_store.specs.declared.turn.Turn.{Turn}
use Rattle.split_store.specs.Turn.{IsCut, IsTurnOf, item_of}
use Rattle.split_store.proofs.Cuts.{known_at, raw_pieces_fit, series_moved}

-- what there is
pub the_one : {A : Type 0} (o : Option A) → IsSome o → (a : A) × (o ≡ Some a)
the_one None is = absurd cc
the_one (Some a) is = (a, refl)

-- ---- a raw series and its chunks

last_some : (m : Measure) (points : List Measure) → IsSome (option_map (λ (m : Measure). m.at) (last_onto (Some m) points))
last_some m [] = refl
last_some m (x ∷ points) = last_some x points

-- there are chunks exactly where there is a last timestamp
chunks_or_none : (points : List Measure) (raws : List Piece) (n : ℕ) → AreEnough (length points) n → length raws ≡ n → IsSome (last_time points) ↔ (map block_of raws ≢ [])
chunks_or_none [] [] n enough long = (λ some. absurd cc, λ ne. absurd (ne refl))
chunks_or_none [] (r ∷ raws) n enough long = absurd (let needed = enough.needed in omega (arith, needed, long))
chunks_or_none (x ∷ points) [] n enough long = absurd (let e = enough.enough in omega (arith, e, long))
chunks_or_none (x ∷ points) (r ∷ raws) n enough long = (λ some none. absurd cc, λ ne. last_some x points)

-- ---- the cut

-- behind its anchor a raw series rises
pub points_rising : (anchor : Option Measure) (points : List Measure) → IsStrictlyIncreasing (map (λ m. m.at) (option_to_list anchor ++ points)) → IsStrictlyIncreasing (map (λ m. m.at) points)
points_rising None points rising = rising
points_rising (Some m) points rising = λ k lt.
    let times = map (λ (x : Measure). x.at) points in
    let next : suc k + 1 ≡ suc (k + 1) = omega arith in
    subst (λ n. slice_index times k < slice_index (m.at ∷ times) n) next (rising (suc k) (omega (arith, lt)))

flat_map-map : {X Y Z : Type 0} (f : Y → List Z) (g : X → Y) (xs : List X) → flat_map f (map g xs) ≡ flat_map (λ x. f (g x)) xs
flat_map-map f g [] = refl
flat_map-map {Z = Z} f g (x ∷ xs) = ap (λ (l : List Z). f (g x) ++ l) (flat_map-map f g xs)

-- the changes of the moves of a metric's series
pub cut_is : (m : Shelved) (p : PreparedView) (made : List Made) (taken : List ℕ) (cut : Cut) (changes_moves : List (Vec Move Global)) → IsFiled m → IsPrepared p → IsRaw p.raw
    → (own others : List ℕ) → taken ≡ own ++ others → AreEnough (length p.raw.points) (length own)
    → (raws news : List Piece) → cut.pieces.items ≡ raws ++ news → AreChunkPieces p.raw.points own raws → places_of news ≡ others → All IsPiece news
    → AreTurned m cut.pieces.items 0 made cut.series.items (map (λ own. own.items) changes_moves) → flat_map blocks_of_moves (map (λ own. own.items) changes_moves) ≡ map block_of news
    → cut.chunks.items ≡ map block_of raws → AllPairs ComesBefore cut.changes.items → All (IsOfPolicy m.policy) cut.changes.items
    → map (kept_after cut.changes.items) m.kept ≡ all_moved m.kept (map (λ own. own.items) changes_moves)
    → blocks_of_changes cut.changes.items ≡ flat_map (λ own. blocks_of_moves own.items) changes_moves
    → IsCut m p made taken cut
cut_is m p made taken cut moves filed prepared series own others taken_are enough raws news pieces_are raw news_at news_fit turned own_blocks chunks in_order of_policy moved blocks = record {
  filed = filed;
  prepared = prepared;
  series = series;
  raws = raws;
  news = news;
  pieces_are = pieces_are;
  own = own;
  others = others;
  taken_are = taken_are;
  enough = enough;
  raw = raw;
  news_at = news_at;
  news_fit = news_fit;
  moves = map (λ own. own.items) moves;
  turned = turned;
  chunks = chunks;
  in_order = in_order;
  of_policy = of_policy;
  moved = moved;
  blocks = blocks ∙ sym (flat_map-map blocks_of_moves (λ own. own.items) moves) ∙ own_blocks;
}

-- ---- lengths

pieces_long : (pieces : List Piece) → All IsPiece pieces → All HasLength (map block_of pieces)
pieces_long pieces fit = All-map HasLength block_of pieces (All-weaker IsPiece (λ (p : Piece). HasLength (block_of p)) (λ p is. let some = is.some in omega (arith, some)) pieces fit)

changes_long : (changes : List Change) → All HasLength (blocks_of_changes changes) → All (λ (c : Change). IfSome c.block HasLength) changes
changes_long [] all = All-nil (λ (c : Change). IfSome c.block HasLength)
changes_long (c ∷ changes) all =
    let both = parts c.block all in
    All-cons (λ (c : Change). IfSome c.block HasLength) c changes both.0 (changes_long changes both.1)
  where
    parts : (o : Option Block) → All HasLength (option_to_list o ++ blocks_of_changes changes) → IfSome o HasLength × All HasLength (blocks_of_changes changes)
    parts None all = (tt, all)
    parts (Some b) all = (All-head HasLength b (blocks_of_changes changes) all, All-tail HasLength b (blocks_of_changes changes) all)

-- ---- a turn

module _ (m : Shelved) (p : PreparedView) (made : List Made) (taken : List ℕ) (cut : Cut) (is : IsCut m p made taken cut) (policy : p.job.policy ≡ m.policy) (count : length made ≡ length m.kept) where
  abbrev item : CommitItem
  item = item_of p cut.chunks.items cut.changes.items

  zip_long : (pieces : List Piece) (chunks : List (List Measure)) (places : List ℕ) → places_of pieces ≡ places → length pieces ≡ length places
  zip_long pieces chunks places at = sym (length-map pieces (λ (p : Piece). p.at)) ∙ ap length at

  raws_fit : All IsPiece is.raws
  raws_fit = raw_pieces_fit is.raws is.raw.chunks is.raw.each

  all_fit : All IsPiece cut.pieces.items
  all_fit = subst (All IsPiece) (sym is.pieces_are) (All-append IsPiece is.raws is.news raws_fit is.news_fit)

  pub writable : IsWritable (items.Commit item)
  writable = record {
    chunks = subst (All HasLength) (sym is.chunks) (pieces_long is.raws raws_fit);
    changes = changes_long cut.changes.items (subst (All HasLength) (sym is.blocks) (pieces_long is.news is.news_fit));
    in_order = is.in_order;
  }

  fits : FitsMetric item m
  fits = record {
    changes = is.of_policy;
    chunks =
        let both = chunks_or_none p.raw.points is.raws (length is.own) is.enough (zip_long is.raws is.raw.chunks is.own is.raw.places_are) in
        (λ some none. both.0 (subst IsSome is.series.last some) (sym is.chunks ∙ none), λ ne. subst IsSome (sym is.series.last) (both.1 (λ none. ne (is.chunks ∙ none))));
  }

  places_are : places_of cut.pieces.items ≡ taken
  places_are =
      ap places_of is.pieces_are ∙ map-append (λ (p : Piece). p.at) is.raws is.news ∙ ap (λ (l : List ℕ). l ++ places_of is.news) is.raw.places_are ∙ ap (λ (l : List ℕ). is.own ++ l) is.news_at ∙ sym is.taken_are

  blocks_are : cut.chunks.items ++ blocks_of_changes cut.changes.items ≡ map block_of cut.pieces.items
  blocks_are =
      ap (λ (l : List Block). l ++ blocks_of_changes cut.changes.items) is.chunks ∙ ap (λ (l : List Block). map block_of is.raws ++ l) is.blocks ∙ sym (map-append block_of is.raws is.news) ∙ ap (map block_of) (sym is.pieces_are)

  series_are : cut.series.items ≡ map (λ (k : Kept). k.splits) (map (kept_after cut.changes.items) m.kept)
  series_are =
      sym (ap (map (λ (k : Kept). k.splits)) is.moved
      ∙ series_moved m cut.pieces.items 0 m.kept made cut.series.items is.moves (sym count)
      (λ j k there. (let z : 0 + j ≡ j = omega arith in ap (slice_get m.kept) z) ∙ there)
      (λ j k there. (let z : 0 + j ≡ j = omega arith in let own = known_at m j k is.filed (slice_get_within m.kept j k there) there in record { definition = own.definition; there = own.there })) is.turned)

  written : ((old new : List ℕ) (m : Shelved) (p : PreparedView) (splits : List (List Split)) (all : List Made) (series : List (List Stored)) (moves : List (List Move)) (pieces : List Piece)
      → IsFiled m → IsPrepared p → p.job.policy ≡ m.policy → length all ≡ length m.kept → AreMade (Some old) m p all → AreTurned m pieces 0 all series moves → All (FillsSlot new) pieces
      → AllZip (HoldsSplits old m.policy) m.kept splits → AllZip (HoldsSplits new m.policy) m.kept splits
      → AllZip (HoldsSplits new m.policy) (all_moved m.kept moves) (all_splits_after (series_under m.policy) p.raw.last p.from p.points splits))
      → (old new : List ℕ) (l : Live) → AreMade (Some old) m p made → All (FillsSlot new) cut.pieces.items → HoldsMetric old m l → HoldsMetric new m l → HoldsMetric new (committed item m) (after_commit p l)
  written law old new l are fills was holds = record {
    id = holds.id;
    policy = holds.policy;
    done = refl;
    raw = subst (λ (bs : List Block). HoldsRaw new bs p.raw.anchor p.raw.last p.raw) (sym is.chunks)
        (raw_written new p.raw is.own is.raws is.raw (all_front (FillsSlot new) is.raws is.news (subst (All (FillsSlot new)) is.pieces_are fills)) is.series);
    splits = subst (λ (ks : List Kept). AllZip (HoldsSplits new m.policy) ks (after_commit p l).splits) (sym is.moved)
        (subst (λ (q : ArchivePolicy). AllZip (HoldsSplits new m.policy) (all_moved m.kept is.moves) (all_splits_after (series_under q) p.raw.last p.from p.points l.splits)) (sym holds.policy)
        (law old new m p l.splits made cut.series.items is.moves cut.pieces.items is.filed is.prepared policy count are is.turned fills was.splits holds.splits));
  }

  -- all of it together
  pub turn_is : ((old new : List ℕ) (m : Shelved) (p : PreparedView) (splits : List (List Split)) (all : List Made) (series : List (List Stored)) (moves : List (List Move)) (pieces : List Piece)
      → IsFiled m → IsPrepared p → p.job.policy ≡ m.policy → length all ≡ length m.kept → AreMade (Some old) m p all → AreTurned m pieces 0 all series moves → All (FillsSlot new) pieces
      → AllZip (HoldsSplits old m.policy) m.kept splits → AllZip (HoldsSplits new m.policy) m.kept splits
      → AllZip (HoldsSplits new m.policy) (all_moved m.kept moves) (all_splits_after (series_under m.policy) p.raw.last p.from p.points splits))
      → (turn : Turn) → turn.pieces ≡ cut.pieces → turn.series ≡ cut.series → turn.item ≡ item → slot ≤ vec_capacity turn.buffer → turn.body.items ≡ shelf_bytes (items.Commit item) → (IsWritable (items.Commit item) → IsShelf (items.Commit item))
      → IsTurnOf m p made taken turn
  turn_is law turn pieces series item_is room body has = record {
    room = room;
    places = ap (λ ps. places_of ps.items) pieces ∙ places_are;
    fit = subst (λ ps. All IsPiece ps.items) (sym pieces) all_fit;
    chunks = cut.chunks.items;
    changes = cut.changes.items;
    item_is = item_is;
    spelled = body ∙ ap (λ c. shelf_bytes (items.Commit c)) (sym item_is);
    is = subst (λ c. IsShelf (items.Commit c)) (sym item_is) (has writable);
    filed = is.filed;
    order = subst (λ (c : CommitItem). AllPairs ComesBefore c.changes) (sym item_is) is.in_order;
    follows = subst (λ c. FitsMetric c m) (sym item_is) fits;
    kept = ap (λ ss. ss.items) series ∙ series_are ∙ ap (λ (c : CommitItem). map (λ (k : Kept). k.splits) (map (kept_after c.changes) m.kept)) (sym item_is);
    blocks = ap (λ (c : CommitItem). c.chunks ++ blocks_of_changes c.changes) item_is ∙ blocks_are ∙ ap (λ ps. map block_of ps.items) (sym pieces);
    written = λ old new l are fills was holds. subst (λ (c : CommitItem). HoldsMetric new (committed c m) (after_commit p l)) (sym item_is)
        (written law old new l are (subst (λ ps. All (FillsSlot new) ps.items) pieces fills) was holds);
  }

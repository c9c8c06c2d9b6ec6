-- What has become of each series of a metric.
use Rattle.std.proofs.Common.{◌≡◌, ℕ, ◌+◌, ◌*◌, ◌/◌, ◌%◌, ◌<◌, List, [], ◌∷◌, ◌++◌, length, map, take, drop, slice_get, slice_index_or, Option, Some, Result, Ok, Err, IfOk, refl, sym, ap, subst, ◌∙◌, arith, length-append}
use Rattle.std.specs.List.{All, AllZip, filter}
use Rattle.std.specs.Prelude.{not}
use Rattle.std.specs.List.Sorted.{IsStrictlyIncreasing}
use Rattle.std.proofs.lemmas.Option.{same_Some, slice_get-get_or}
use Rattle.std.proofs.lemmas.List.{drop_more, length-map}
use Rattle.std.proofs.lemmas.List.Elements.{All-cons, All-nil}
use Rattle.std.proofs.lemmas.List.Sums.{sum_by-cons}
use Rattle.gno_codec.specs.declared.item.Block.{Block}
use Rattle.std.proofs.Math.Nat.{mod-add-div', mod-lt, suc-mul, div-lt_iff_lt-mul}
use Rattle.archive_policy.specs.declared.definition.Definition.{Definition}
use Rattle.archive_policy.specs.declared.kind.Kind.{Kind}
use Rattle.archive_policy.specs.declared.kind.Kind.TheVariants.{Mean}
use Rattle.series_model.specs.declared.point.Point.{Point}
use Rattle.series_model.specs.declared.point.Split.{Split}
use Rattle.shelf_records.specs.declared.moves.Move.{Move}
use Rattle.shelf_records.specs.declared.series.Stored.{Stored}
use Rattle.shelf_records.specs.Filed.{IsFiled, emptied}
use Rattle.shelf_records.specs.Moves.{blocks_of_moves, gone_of, is_put, put_of}
use Rattle.shelf_records.specs.Series.{after_moves}
use Rattle.shelf_records.specs.Shelved.{Kept, Shelved, none_kept}
use Rattle.block_slots.specs.declared.slots.Piece.{Piece}
use Rattle.block_slots.specs.Slots.{FillsSlot}
use Rattle.shelf_blocks.specs.declared.turn.Made.{Made}
use Rattle.shelf_blocks.specs.Pieces.{AreSplitPieces, IsPiece, IsSplitPiece, all_stored_as, block_of}
use Rattle.shelf_blocks.specs.Turns.{AreTurned, IsFitting, IsMade, IsTurned, IsTurnedAt, keys_gone, made_count}
use Rattle.shelf_blocks.proofs.Held.{all_back, all_front}
use Rattle.shelf_blocks.proofs.SeriesPlaces.{get_within, series_at}
use Rattle.shelf_blocks.proofs.Written.{splits_written}

pub length-none : (kinds : List Kind) (e : ℕ) (ds : List Definition) → length (none_kept kinds e ds) ≡ length ds * length kinds
length-none kinds e [] = omega arith
length-none kinds e (d ∷ ds) =
    omega (arith, length-append (map (λ kind. let k : Kept = record { definition = e; kind = kind; splits = [] } in k) kinds) (none_kept kinds (e + 1) ds), length-map kinds (λ kind. let k : Kept = record { definition = e; kind = kind; splits = [] } in k), length-none kinds (e + 1) ds, suc-mul (length ds) (length kinds))

-- the places of a definition and a kind in the policy, by that of their series
pub record IsPlace (m : Shelved) (place : ℕ) : Type 0 where
  pub definition : place / length m.policy.kinds < length m.policy.definitions
  pub kind : place % length m.policy.kinds < length m.policy.kinds
  pub whole : place ≡ place / length m.policy.kinds * length m.policy.kinds + place % length m.policy.kinds

pub place_is : (m : Shelved) (place : ℕ) → IsFiled m → place < length m.kept → IsPlace m place
place_is m place filed lt =
    let n = length m.policy.kinds in
    let some : 0 < n = (let s = filed.kinds.some in omega (arith, s)) in
    let long : length m.kept ≡ length m.policy.definitions * n = sym (length-map m.kept emptied) ∙ ap length filed.layout ∙ length-none m.policy.kinds 0 m.policy.definitions in
    record {
      definition = (div-lt_iff_lt-mul {k = n} {x = place} {y = length m.policy.definitions} some).1 (omega (arith, lt, long));
      kind = mod-lt place some;
      whole = (let e = mod-add-div' place n in omega (arith, e));
    }

-- the series at a place is of the definition that the place tells
pub defined_at : (m : Shelved) (place : ℕ) (kept : Kept) (d : Definition) → IsFiled m → slice_get m.kept place ≡ Some kept → slice_get m.policy.definitions (place / length m.policy.kinds) ≡ Some d → slice_get m.policy.definitions kept.definition ≡ Some d
defined_at m place kept d filed there is =
    let at = place_is m place filed (get_within m.kept place kept there) in
    let k = place % length m.policy.kinds in
    let of = series_at m (place / length m.policy.kinds) k (slice_index_or m.policy.kinds k Mean) kept filed (slice_get-get_or m.policy.kinds k Mean at.kind) at.definition (ap (slice_get m.kept) (sym at.whole) ∙ there) in
    ap (slice_get m.policy.definitions) of.definition ∙ is

-- what is made fits
pub made_fits : (told : Option (List ℕ)) (d : Definition) (last from : Option ℕ) (points : List Point) (stored : List Stored) (made : Made) → IsMade told d last from points stored made → IsFitting d stored made
made_fits told d last from points stored made is = record { order = is.order; within = is.within; formed = is.formed; rising = is.rising }

-- keys of what is stored then
pub stored_keys : (g : ℕ) (splits : List Split) (places : List ℕ) (pieces : List Piece) (stored : List Stored) → AreSplitPieces g splits places pieces stored → map (λ s. s.key) stored ≡ map (λ s. s.key) splits
stored_keys g splits places pieces stored are = ap (map (λ (s : Stored). s.key)) are.stored_are ∙ same_keys splits pieces are.each
  where
    same_keys : (ss : List Split) (ps : List Piece) → AllZip (IsSplitPiece g) ss ps → map (λ (s : Stored). s.key) (all_stored_as ss ps) ≡ map (λ s. s.key) ss
    same_keys [] ps each = refl
    same_keys (s ∷ ss) [] each = absurd each
    same_keys (s ∷ ss) (p ∷ ps) each = ap (λ (ks : List ℕ). s.key ∷ ks) (same_keys ss ps each.1)

-- a series that was turned
pub turned_is : (m : Shelved) (place : ℕ) (made : Made) (kept : Kept) (d : Definition) (places : List ℕ) (before more pieces : List Piece) (stored : List Stored) (series : List Stored) (own : List Move)
    → slice_get m.kept place ≡ Some kept → slice_get m.policy.definitions kept.definition ≡ Some d → pieces ≡ before ++ more → AreSplitPieces d.granularity made.splits.items places more stored
    → series ≡ drop made.kept.first (take made.kept.until kept.splits) ++ stored → after_moves own kept.splits ≡ drop made.kept.first (take made.kept.until kept.splits) ++ stored
    → IsStrictlyIncreasing (map (λ m. m.key) own) → filter is_put own ≡ map put_of stored → filter (λ m. not (is_put m)) own ≡ map gone_of (keys_gone kept.splits made stored)
    → blocks_of_moves own ≡ map (λ s. s.block) stored → IsTurnedAt m pieces place made series own
turned_is m place made kept d places before more pieces stored series own there of pieces_are written series_is leads rising puts gone blocks = λ other e other_there e_is.
    let one = same_Some kept other (sym there ∙ other_there) in
    let e_same : d ≡ e = same_Some d e (sym of ∙ ap (λ (k : Kept). slice_get m.policy.definitions k.definition) one ∙ e_is) in
    subst (λ (f : Definition). IsTurned pieces f other.splits made series own) e_same
    (subst (λ (k : Kept). IsTurned pieces d k.splits made series own) one
    (record {
      new = stored;
      series_is = series_is;
      leads = leads ∙ sym series_is;
      rising = rising;
      keys = stored_keys d.granularity made.splits.items places more stored written;
      puts = puts;
      gone = gone;
      blocks = blocks;
      written = λ z fills. splits_written z d.granularity made.splits.items places more stored written (all_back (FillsSlot z) before more (subst (All (FillsSlot z)) pieces_are fills));
    }))

-- the definition that a place tells, by the policy as it was read
pub in_bounds : (m : Shelved) (place : ℕ) (kinds : List Kind) (ds : List Definition) → kinds ≡ m.policy.kinds → ds ≡ m.policy.definitions → IsFiled m → place < length m.kept → place / length kinds < length ds
in_bounds m place kinds ds kinds_are ds_are filed lt =
    subst (λ (ks : List Kind). place / length ks < length ds) (sym kinds_are) (subst (λ (l : List Definition). place / length m.policy.kinds < length l) (sym ds_are) (place_is m place filed lt).definition)

pub at_place : (m : Shelved) (place : ℕ) (kinds : List Kind) (ds : List Definition) (d : Definition) → kinds ≡ m.policy.kinds → ds ≡ m.policy.definitions → IsFiled m → place < length m.kept
    → slice_get m.policy.definitions (place / length m.policy.kinds) ≡ Some (slice_index_or ds (place / length kinds) d)
at_place m place kinds ds d kinds_are ds_are filed lt =
    slice_get-get_or m.policy.definitions (place / length m.policy.kinds) d (place_is m place filed lt).definition
    ∙ ap Some (ap (λ (l : List Definition). slice_index_or l (place / length m.policy.kinds) d) (sym ds_are) ∙ ap (λ (ks : List Kind). slice_index_or ds (place / length ks) d) (sym kinds_are))

-- the facts of a turned series are one
pub all_turned : {T E : Type 0} (result : Result T E) (s : T → List Stored) (own : T → List Move) (m : Shelved) (place : ℕ) (made : Made) (kept : Kept) (d : Definition) (places : List ℕ) (before more pieces : List Piece) (stored now : List Stored)
    → slice_get m.kept place ≡ Some kept → now ≡ kept.splits → slice_get m.policy.definitions kept.definition ≡ Some d → pieces ≡ before ++ more → AreSplitPieces d.granularity made.splits.items places more stored
    → IfOk result (λ t. s t ≡ drop made.kept.first (take made.kept.until now) ++ stored) → IfOk result (λ t. after_moves (own t) now ≡ drop made.kept.first (take made.kept.until now) ++ stored)
    → IfOk result (λ t. IsStrictlyIncreasing (map (λ m. m.key) (own t))) → IfOk result (λ t. filter is_put (own t) ≡ map put_of stored) → IfOk result (λ t. filter (λ m. not (is_put m)) (own t) ≡ map gone_of (keys_gone now made stored))
    → IfOk result (λ t. blocks_of_moves (own t) ≡ map (λ s. s.block) stored)
    → IfOk result (λ t. IsTurnedAt m pieces place made (s t) (own t))
all_turned (Err e) s own m place made kept d places before more pieces stored now there now_is of pieces_are written series_is leads rising puts gone blocks = tt
all_turned (Ok t) s own m place made kept d places before more pieces stored now there now_is of pieces_are written series_is leads rising puts gone blocks =
    turned_is m place made kept d places before more pieces stored (s t) (own t) there of pieces_are written
    (subst (λ (n : List Stored). s t ≡ drop made.kept.first (take made.kept.until n) ++ stored) now_is series_is)
    (subst (λ (n : List Stored). after_moves (own t) n ≡ drop made.kept.first (take made.kept.until n) ++ stored) now_is leads)
    rising puts (subst (λ (n : List Stored). filter (λ m. not (is_put m)) (own t) ≡ map gone_of (keys_gone n made stored)) now_is gone) blocks

-- more pieces, and a series more
turned_more : (m : Shelved) (place : ℕ) (made : Made) (pieces more : List Piece) (s : List Stored) (own : List Move) → IsTurnedAt m pieces place made s own → IsTurnedAt m (pieces ++ more) place made s own
turned_more m place made pieces more s own is = λ kept d there of.
    let t = is kept d there of in
    record { new = t.new; series_is = t.series_is; leads = t.leads; rising = t.rising; keys = t.keys; puts = t.puts; gone = t.gone; blocks = t.blocks; written = λ z fills. t.written z (all_front (FillsSlot z) pieces more fills) }

pub are_turned_more : (m : Shelved) (e : ℕ) (pieces more : List Piece) (all : List Made) (series : List (List Stored)) (moves : List (List Move)) → AreTurned m pieces e all series moves → AreTurned m (pieces ++ more) e all series moves
are_turned_more m e pieces more [] [] [] are = are
are_turned_more m e pieces more [] [] (o ∷ moves) are = absurd are
are_turned_more m e pieces more [] (s ∷ series) moves are = absurd are
are_turned_more m e pieces more (x ∷ all) [] moves are = absurd are
are_turned_more m e pieces more (x ∷ all) (s ∷ series) [] are = absurd are
are_turned_more m e pieces more (x ∷ all) (s ∷ series) (o ∷ moves) are = (turned_more m e x pieces more s o are.0, are_turned_more m (e + 1) pieces more all series moves are.1)

pub one_turned_more : (m : Shelved) (e : ℕ) (pieces : List Piece) (all : List Made) (series : List (List Stored)) (moves : List (List Move)) (made : Made) (s : List Stored) (own : List Move) → AreTurned m pieces e all series moves
    → IsTurnedAt m pieces (e + length all) made s own → AreTurned m pieces e (all ++ made ∷ []) (series ++ s ∷ []) (moves ++ own ∷ [])
one_turned_more m e pieces [] [] [] made s own are one = (subst (λ (n : ℕ). IsTurnedAt m pieces n made s own) (let z : e + 0 ≡ e = omega arith in z) one, tt)
one_turned_more m e pieces [] [] (o ∷ moves) made s own are one = absurd are
one_turned_more m e pieces [] (t ∷ series) moves made s own are one = absurd are
one_turned_more m e pieces (x ∷ all) [] moves made s own are one = absurd are
one_turned_more m e pieces (x ∷ all) (t ∷ series) [] made s own are one = absurd are
one_turned_more m e pieces (x ∷ all) (t ∷ series) (o ∷ moves) made s own are one =
    (are.0, one_turned_more m (e + 1) pieces all series moves made s own are.1 (subst (λ (n : ℕ). IsTurnedAt m pieces n made s own) (let z : e + length (x ∷ all) ≡ (e + 1) + length all = omega arith in z) one))

pub count_left : (all : List Made) (i : ℕ) (made : Made) → i < length all → made ≡ slice_index_or all i made → made_count (drop i all) ≡ length made.splits.items + made_count (drop (i + 1) all)
count_left all i made lt is = ap made_count (drop_more all i made lt ∙ ap (λ (x : Made). x ∷ drop (i + 1) all) (sym is)) ∙ sum_by-cons (λ (x : Made). length x.splits.items) made (drop (i + 1) all)

pub no_items : {X : Type 0} (xs : List X) → length xs ≡ 0 → xs ≡ []
no_items [] none = refl
no_items (x ∷ xs) none = absurd (omega (arith, none))

-- the blocks of stored splits are those of their pieces
stored_blocks : (g : ℕ) (splits : List Split) (pieces : List Piece) → AllZip (IsSplitPiece g) splits pieces → map (λ (s : Stored). s.block) (all_stored_as splits pieces) ≡ map block_of pieces
stored_blocks g [] [] each = refl
stored_blocks g [] (p ∷ pieces) each = absurd each
stored_blocks g (s ∷ splits) [] each = absurd each
stored_blocks g (s ∷ splits) (p ∷ pieces) each = ap (λ (bs : List Block). block_of p ∷ bs) (stored_blocks g splits pieces each.1)

all_pieces : (g : ℕ) (splits : List Split) (pieces : List Piece) → AllZip (IsSplitPiece g) splits pieces → All IsPiece pieces
all_pieces g [] [] each = All-nil IsPiece
all_pieces g [] (p ∷ pieces) each = absurd each
all_pieces g (s ∷ splits) [] each = absurd each
all_pieces g (s ∷ splits) (p ∷ pieces) each = All-cons IsPiece p pieces each.0.piece (all_pieces g splits pieces each.1)

-- the pieces that one series adds
pub pieces_added : {T E : Type 0} (result : Result T E) (own : T → List Move) (g : ℕ) (splits : List Split) (places : List ℕ) (before more pieces : List Piece) (stored : List Stored)
    → pieces ≡ before ++ more → AreSplitPieces g splits places more stored → IfOk result (λ t. blocks_of_moves (own t) ≡ map (λ s. s.block) stored)
    → IfOk result (λ t. (more : List Piece) × (pieces ≡ before ++ more) × (map (λ p. p.at) more ≡ places) × All IsPiece more × (blocks_of_moves (own t) ≡ map block_of more))
pieces_added (Err e) own g splits places before more pieces stored pieces_are written blocks = tt
pieces_added (Ok t) own g splits places before more pieces stored pieces_are written blocks =
    (more, pieces_are, written.places_are, all_pieces g splits more written.each, blocks ∙ ap (map (λ (s : Stored). s.block)) written.stored_are ∙ stored_blocks g splits more written.each)

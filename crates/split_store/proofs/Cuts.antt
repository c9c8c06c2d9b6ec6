-- The pieces and the changes of a turn.
use Rattle.std.proofs.Common.{◌≡◌, ℕ, zero, suc, ◌+◌, ◌*◌, ◌<◌, ◌%◌, ◌/◌, Bool, true, false, cond, List, [], ◌∷◌, ◌++◌, length, map, take, drop, slice_get, slice_index_or, Option, Some, option_map, refl, sym, ap, subst, ◌∙◌, arith}
use Rattle.std.specs.Prelude.{not}
use Rattle.std.specs.List.{All, AllZip, filter}
use Rattle.std.specs.List.Sorted.{IsStrictlyIncreasing}
use Rattle.std.proofs.lemmas.List.{length-map}
use Rattle.std.proofs.lemmas.List.Elements.{All-nil, All-cons, All-head, All-tail, All-append, All-drop, All-filter, All-map, All-same, All-take, All-weaker}
use Rattle.std.proofs.lemmas.Option.{same_Some, slice_get-get_or, slice_get-map, slice_get_within}
use Rattle.archive_policy.specs.declared.definition.Definition.{Definition}
use Rattle.archive_policy.specs.declared.kind.Kind.TheVariants.{Mean}
use Rattle.series_model.specs.declared.measure.Measure.{Measure}
use Rattle.series_model.specs.declared.point.Split.{Split}
use Rattle.series_model.specs.Stored.{split_span}
use Rattle.bound_series.specs.Jobs.{PreparedView}
use Rattle.split_update.specs.Update.{AreSplits, IsWellFormed}
use Rattle.shelf_records.specs.declared.moves.Move.{Move}
use Rattle.shelf_records.specs.declared.series.Stored.{Stored}
use Rattle.shelf_records.specs.Changes.{HaveKeys, all_moved}
use Rattle.shelf_records.specs.Filed.{IsFiled, emptied}
use Rattle.shelf_records.specs.Moves.{gone_of, is_made, is_put, put_of}
use Rattle.shelf_records.specs.Shelved.{Kept, Shelved}
use Rattle.block_slots.specs.declared.slots.Piece.{Piece}
use Rattle.shelf_records.proofs.Metrics.{at_place}
use Rattle.shelf_blocks.specs.Pieces.{IsChunkPiece, IsPiece}
use Rattle.shelf_blocks.specs.declared.turn.Made.{Made}
use Rattle.shelf_blocks.specs.Turns.{AreFitting, AreMade, AreTurned, AreMade, HasKeys, IsTurned, IsTurnedAt, keys_gone}
use Rattle.shelf_blocks.proofs.Held.{all_mapped}
use Rattle.shelf_blocks.proofs.TurnedLemmas.{defined_at, length-none, made_fits, place_is}

-- ---- lists of one length

pub long_moves : (m : Shelved) (pieces : List Piece) (e : ℕ) (all : List Made) (series : List (List Stored)) (moves : List (List Move)) → AreTurned m pieces e all series moves → (length moves ≡ length all) × (length series ≡ length all)
long_moves m pieces e [] [] [] are = (refl, refl)
long_moves m pieces e [] [] (o ∷ moves) are = absurd are
long_moves m pieces e [] (s ∷ series) moves are = absurd are
long_moves m pieces e (x ∷ all) [] moves are = absurd are
long_moves m pieces e (x ∷ all) (s ∷ series) [] are = absurd are
long_moves m pieces e (x ∷ all) (s ∷ series) (o ∷ moves) are = let rest = long_moves m pieces (e + 1) all series moves are.1 in (ap suc rest.0, ap suc rest.1)

-- the series at a place, with its definition
pub record IsKnown (m : Shelved) (place : ℕ) (kept : Kept) : Type 0 where
  pub definition : Definition
  pub there : slice_get m.policy.definitions kept.definition ≡ Some definition

none : Definition
none = record { granularity = 0; points = 0 }

pub known_at : (m : Shelved) (place : ℕ) (kept : Kept) → IsFiled m → place < length m.kept → slice_get m.kept place ≡ Some kept → IsKnown m place kept
known_at m place kept filed lt there =
    let at = place_is m place filed lt in
    let i = place / length m.policy.kinds in
    record { definition = slice_index_or m.policy.definitions i none; there = defined_at m place kept (slice_index_or m.policy.definitions i none) filed there (slice_get-get_or m.policy.definitions i none at.definition) }

-- what has become of the series at a place
pub record IsOneTurned (m : Shelved) (pieces : List Piece) (all : List Made) (place : ℕ) (own : List Move) : Type 0 where
  pub made : Made
  pub series : List Stored
  pub made_is : slice_get all place ≡ Some made
  pub turned : IsTurnedAt m pieces place made series own

pub one_turned : (m : Shelved) (pieces : List Piece) (e : ℕ) (all : List Made) (series : List (List Stored)) (moves : List (List Move)) → AreTurned m pieces e all series moves
    → (j : ℕ) (own : List Move) → slice_get moves j ≡ Some own → (made : Made) × (s : List Stored) × (slice_get all j ≡ Some made) × IsTurnedAt m pieces (e + j) made s own
one_turned m pieces e [] [] [] are j own there = absurd cc
one_turned m pieces e [] [] (o ∷ moves) are j own there = absurd are
one_turned m pieces e [] (s ∷ series) moves are j own there = absurd are
one_turned m pieces e (x ∷ all) [] moves are j own there = absurd are
one_turned m pieces e (x ∷ all) (s ∷ series) [] are j own there = absurd are
one_turned m pieces e (x ∷ all) (s ∷ series) (o ∷ moves) are zero own there =
    let is : o ≡ own = cc in
    let z : e ≡ e + 0 = omega arith in
    (x, s, refl, subst (λ n. IsTurnedAt m pieces n x s own) z (subst (IsTurnedAt m pieces e x s) is are.0))
one_turned m pieces e (x ∷ all) (s ∷ series) (o ∷ moves) are (suc j) own there =
    let rest = one_turned m pieces (e + 1) all series moves are.1 j own there in
    let z : (e + 1) + j ≡ e + suc j = omega arith in
    (rest.0, rest.1, rest.2, subst (λ n. IsTurnedAt m pieces n rest.0 rest.1 own) z rest.3)

-- ---- keys and order

-- what is so of each that passes a test, and of each that doesn't, is so of all
pub all_halves : {X : Type 0} (P : X → Type 0) (test : X → Bool) (xs : List X) → All P (filter test xs) → All P (filter (λ x. not (test x)) xs) → All P xs
all_halves P test [] passing failing = All-nil P
all_halves {X} P test (x ∷ xs) passing failing = by (test x) (all_halves P test xs) passing failing
  where
    by : (t : Bool) → (All P (filter test xs) → All P (filter (λ x. not (test x)) xs) → All P xs) → All P (cond t (x ∷ filter test xs) (filter test xs)) → All P (cond (not t) (x ∷ filter (λ x. not (test x)) xs) (filter (λ x. not (test x)) xs)) → All P (x ∷ xs)
    by true rest passing failing = All-cons P x xs (All-head P x (filter test xs) passing) (rest (All-tail P x (filter test xs) passing) failing)
    by false rest passing failing = All-cons P x xs (All-head P x (filter (λ x. not (test x)) xs) failing) (rest passing (All-tail P x (filter (λ x. not (test x)) xs) failing))

-- the keys of the moves of a series are multiples of 3,600 granularities
keys_moved : (pieces : List Piece) (d : Definition) (stored : List Stored) (made : Made) (series : List Stored) (own : List Move) → IsTurned pieces d stored made series own → AreSplits d.granularity made.splits.items
    → All (λ (s : Stored). s.key % split_span d.granularity ≡ 0) stored → All (λ (m : Move). m.key % split_span d.granularity ≡ 0) own
keys_moved pieces d stored made series own turned formed sound =
    all_halves (λ (m : Move). Keyed m.key) is_put own
    (All-same (λ (m : Move). Keyed m.key) (filter is_put own) (map put_of turned.new) turned.puts (All-map (λ (m : Move). Keyed m.key) put_of turned.new (all_mapped Keyed (λ (s : Stored). s.key) turned.new new_keys)))
    (All-same (λ (m : Move). Keyed m.key) (filter (λ m. not (is_put m)) own) (map gone_of (keys_gone stored made turned.new)) turned.gone
    (All-map (λ (m : Move). Keyed m.key) gone_of (keys_gone stored made turned.new) (All-filter (λ key. not (is_made turned.new key)) Keyed (map (λ (s : Stored). s.key) left) (All-map Keyed (λ (s : Stored). s.key) left left_keys))))
  where
    Keyed : ℕ → Type 0
    Keyed key = key % split_span d.granularity ≡ 0

    left : List Stored
    left = take made.kept.first stored ++ drop made.kept.until stored

    left_keys : All (λ (s : Stored). Keyed s.key) left
    left_keys = All-append (λ (s : Stored). Keyed s.key) (take made.kept.first stored) (drop made.kept.until stored)
        (All-take (λ (s : Stored). Keyed s.key) made.kept.first stored sound) (All-drop (λ (s : Stored). Keyed s.key) made.kept.until stored sound)

    new_keys : All Keyed (map (λ (s : Stored). s.key) turned.new)
    new_keys = All-same Keyed (map (λ (s : Stored). s.key) turned.new) (map (λ (s : Split). s.key) made.splits.items) turned.keys
        (All-map Keyed (λ (s : Split). s.key) made.splits.items (All-weaker (IsWellFormed d.granularity) (λ (s : Split). Keyed s.key) (λ s is. is.key) made.splits.items formed.each))

no_kept : Kept
no_kept = record { definition = 0; kind = Mean; splits = [] }

module _ (m : Shelved) (pieces : List Piece) (all : List Made) (series : List (List Stored)) (moves : List (List Move)) (filed : IsFiled m) (count : length all ≡ length m.kept) (fit : AreFitting m all)
    (turned : AreTurned m pieces 0 all series moves) where
  within : (place : ℕ) (own : List Move) → slice_get moves place ≡ Some own → place < length m.kept
  within place own there = let lt = slice_get_within moves place own there in let long = (long_moves m pieces 0 all series moves turned).0 in omega (arith, lt, long, count)

  kept_at : (place : ℕ) → place < length m.kept → (kept : Kept) × (slice_get m.kept place ≡ Some kept)
  kept_at place lt = (slice_index_or m.kept place no_kept, slice_get-get_or m.kept place no_kept lt)

  turned_at : (place : ℕ) (own : List Move) → slice_get moves place ≡ Some own → (made : Made) × (s : List Stored) × (slice_get all place ≡ Some made) × IsTurnedAt m pieces place made s own
  turned_at place own there =
      let one = one_turned m pieces 0 all series moves turned place own there in
      let z : 0 + place ≡ place = omega arith in
      (one.0, one.1, one.2, subst (λ n. IsTurnedAt m pieces n one.0 one.1 own) z one.3)

  pub rising_moves : All (λ (own : List Move). IsStrictlyIncreasing (map (λ m. m.key) own)) moves
  rising_moves place d lt =
      let own = slice_index_or moves place d in
      let there : slice_get moves place ≡ Some own = slice_get-get_or moves place d lt in
      let one = turned_at place own there in
      let k = kept_at place (within place own there) in
      let known = known_at m place k.0 filed (within place own there) k.1 in
      (one.3 k.0 known.definition k.1 known.there).rising

  -- the keys of all moves are of the policy
  pub have_keys : All (HasKeys m.policy) m.kept → HaveKeys m.policy moves
  have_keys sound place empty own d empty_there there of =
      let lt = within place own there in
      let one = turned_at place own there in
      let k = kept_at place lt in
      let same : emptied k.0 ≡ empty = same_Some (emptied k.0) empty (sym (slice_get-map emptied m.kept place ∙ ap (option_map emptied) k.1) ∙ ap (λ (l : List Kept). slice_get l place) filed.layout ∙ empty_there) in
      let of_k : slice_get m.policy.definitions k.0.definition ≡ Some d = ap (λ (e : Kept). slice_get m.policy.definitions e.definition) same ∙ of in
      keys_moved pieces d k.0.splits one.0 one.1 own (one.3 k.0 d k.1 of_k) (fit place one.0 one.2 k.0 d k.1 of_k).formed (at_place (HasKeys m.policy) m.kept place k.0 k.1 sound d of_k)

-- the series are those that the moves leave
pub series_moved : (m : Shelved) (pieces : List Piece) (e : ℕ) (kept : List Kept) (all : List Made) (series : List (List Stored)) (moves : List (List Move)) → length kept ≡ length all
    → ((j : ℕ) (k : Kept) → slice_get kept j ≡ Some k → slice_get m.kept (e + j) ≡ Some k) → ((j : ℕ) (k : Kept) → slice_get kept j ≡ Some k → IsKnown m (e + j) k)
    → AreTurned m pieces e all series moves → map (λ (k : Kept). k.splits) (all_moved kept moves) ≡ series
series_moved m pieces e [] [] [] [] long there known are = refl
series_moved m pieces e [] [] [] (o ∷ moves) long there known are = absurd are
series_moved m pieces e [] [] (s ∷ series) moves long there known are = absurd are
series_moved m pieces e [] (x ∷ all) series moves long there known are = absurd (omega (arith, long))
series_moved m pieces e (k ∷ kept) [] series moves long there known are = absurd (omega (arith, long))
series_moved m pieces e (k ∷ kept) (x ∷ all) [] moves long there known are = absurd are
series_moved m pieces e (k ∷ kept) (x ∷ all) (s ∷ series) [] long there known are = absurd are
series_moved m pieces e (k ∷ kept) (x ∷ all) (s ∷ series) (o ∷ moves) long there known are =
    let z : e + 0 ≡ e = omega arith in
    let here : slice_get m.kept e ≡ Some k = ap (slice_get m.kept) (sym z) ∙ there 0 k refl in
    let own = known 0 k refl in
    let turned = are.0 k own.definition here own.there in
    ap (λ (l : List Stored). l ∷ map (λ (k : Kept). k.splits) (all_moved kept moves)) turned.leads
    ∙ ap (λ (l : List (List Stored)). s ∷ l) (series_moved m pieces (e + 1) kept all series moves (omega (arith, long))
    (λ j k is. (let n : (e + 1) + j ≡ e + suc j = omega arith in ap (slice_get m.kept) n) ∙ there (suc j) k is)
    (λ j k is. let found = known (suc j) k is in record { definition = found.definition; there = found.there }) are.1)

-- the pieces of a raw series
pub raw_pieces_fit : (pieces : List Piece) (chunks : List (List Measure)) → AllZip IsChunkPiece pieces chunks → All IsPiece pieces
raw_pieces_fit [] [] each = All-nil IsPiece
raw_pieces_fit [] (c ∷ chunks) each = absurd each
raw_pieces_fit (p ∷ pieces) [] each = absurd each
raw_pieces_fit (p ∷ pieces) (c ∷ chunks) each = All-cons IsPiece p pieces each.0.piece (raw_pieces_fit pieces chunks each.1)

-- ---- what was made fits

pub long_kept : (m : Shelved) → IsFiled m → length m.kept ≡ length m.policy.definitions * length m.policy.kinds
long_kept m filed = sym (length-map m.kept emptied) ∙ ap length filed.layout ∙ length-none m.policy.kinds 0 m.policy.definitions

pub all_fit : (told : Option (List ℕ)) (m : Shelved) (p : PreparedView) (made : List Made) → AreMade told m p made → AreFitting m made
all_fit told m p made are place one there kept d kept_there d_there = made_fits told d _ _ _ kept.splits one (are place one there kept d kept_there d_there)

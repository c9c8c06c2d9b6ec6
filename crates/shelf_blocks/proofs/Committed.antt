-- What blocks hold of a metric once a commit has written its pieces.
use Rattle.std.proofs.Common.{◌≡◌, ℕ, suc, ◌+◌, List, [], ◌∷◌, ◌++◌, length, take, drop, slice_get, Option, Some, refl, sym, ap, subst, ◌∙◌, arith}
use Rattle.std.specs.List.{All, AllZip}
use Rattle.std.proofs.lemmas.Option.{same_Some}
use Rattle.archive_policy.specs.declared.definition.Definition.{Definition}
use Rattle.archive_policy.specs.Policies.{ArchivePolicy}
use Rattle.series_model.specs.declared.point.Point.{Point}
use Rattle.series_model.specs.declared.point.Split.{Split}
use Rattle.split_update.specs.Live.{SeriesOf, all_splits_after}
use Rattle.split_update.specs.Update.{oldest_by, splits_after}
use Rattle.shelf_records.specs.declared.moves.Move.{Move}
use Rattle.shelf_records.specs.declared.series.Stored.{Stored}
use Rattle.shelf_records.specs.Changes.{all_moved}
use Rattle.shelf_records.specs.Series.{after_moves}
use Rattle.shelf_records.specs.Shelved.{Kept, Shelved}
use Rattle.block_slots.specs.declared.slots.Piece.{Piece}
use Rattle.block_slots.specs.Slots.{FillsSlot}
use Rattle.shelf_blocks.specs.declared.turn.Made.{Made}
use Rattle.shelf_blocks.specs.Blocks.{HoldsSplit, HoldsSplits}
use Rattle.shelf_blocks.specs.Turns.{AreTurned, IsMade, IsTurned}
use Rattle.shelf_blocks.proofs.Written.{series_written}

module _ (z new : List ℕ) (policy : ArchivePolicy) (last from : Option ℕ) (pieces : List Piece) (fills : All (FillsSlot new) pieces) where
  -- what is known of one series: it is of a definition, with these new points
  pub record IsLinked (kept : Kept) (so : SeriesOf) (points : List Point) (made : Made) : Type 0 where
    pub defined : slice_get policy.definitions kept.definition ≡ Some so.definition
    pub is : IsMade (Some z) so.definition last from points kept.splits made

  -- one series after its turn
  one_held : (kept : Kept) (old : List Split) (so : SeriesOf) (points : List Point) (made : Made) (s : List Stored) (own : List Move) → IsLinked kept so points made → IsTurned pieces so.definition kept.splits made s own
      → HoldsSplits z policy kept old → HoldsSplits new policy kept old
      → HoldsSplits new policy (record kept { splits = after_moves own kept.splits }) (splits_after so.definition.granularity (oldest_by so.definition last) from points old)
  one_held kept old so points made s own link turned was holds =
      let d = so.definition in
      let same_was : was.definition ≡ d = same_Some was.definition d (sym was.there ∙ link.defined) in
      let same : holds.definition ≡ d = same_Some holds.definition d (sym holds.there ∙ link.defined) in
      let before = subst (λ (e : Definition). AllZip (HoldsSplit z e.granularity) kept.splits old) same_was was.each in
      let now = subst (λ (e : Definition). AllZip (HoldsSplit new e.granularity) kept.splits old) same holds.each in
      let written = series_written new d.granularity made.kept.first made.kept.until kept.splits turned.new old made.splits.items now (turned.written new fills) in
      record {
        definition = d;
        there = link.defined;
        each = subst (λ (l : List Stored). AllZip (HoldsSplit new d.granularity) l (splits_after d.granularity (oldest_by d last) from points old)) (sym (turned.leads ∙ turned.series_is))
            (subst (AllZip (HoldsSplit new d.granularity) (drop made.kept.first (take made.kept.until kept.splits) ++ turned.new)) (link.is.after old before) written);
      }

  -- that of all series, side by side
  abbrev pub AreLinked : List Kept → List SeriesOf → List (List Point) → List Made → Type 0
  AreLinked [] [] [] [] = Unit {0}
  AreLinked (k ∷ kept) (so ∷ series) (ps ∷ points) (made ∷ all) = IsLinked k so ps made × AreLinked kept series points all
  AreLinked kept series points all = ⊥

  -- what has become of each of them
  abbrev pub AreTurnedAs : List Kept → List SeriesOf → List Made → List (List Stored) → List (List Move) → Type 0
  AreTurnedAs [] [] [] [] [] = Unit {0}
  AreTurnedAs (k ∷ kept) (so ∷ series) (made ∷ all) (s ∷ stored) (own ∷ moves) = IsTurned pieces so.definition k.splits made s own × AreTurnedAs kept series all stored moves
  AreTurnedAs kept series all stored moves = ⊥

  -- the splits of a metric after its turn
  pub all_held : (kept : List Kept) (old : List (List Split)) (series : List SeriesOf) (points : List (List Point)) (all : List Made) (stored : List (List Stored)) (moves : List (List Move)) → AreLinked kept series points all → AreTurnedAs kept series all stored moves
      → AllZip (HoldsSplits z policy) kept old → AllZip (HoldsSplits new policy) kept old → AllZip (HoldsSplits new policy) (all_moved kept moves) (all_splits_after series last from points old)
  all_held [] [] [] [] [] [] [] linked turned was holds = tt
  all_held [] [] [] [] [] [] (own ∷ moves) linked turned was holds = absurd turned
  all_held [] [] [] [] [] (s ∷ stored) moves linked turned was holds = absurd turned
  all_held [] [] [] [] (made ∷ all) stored moves linked turned was holds = absurd linked
  all_held [] [] [] (ps ∷ points) all stored moves linked turned was holds = absurd linked
  all_held [] [] (so ∷ series) points all stored moves linked turned was holds = absurd linked
  all_held [] (o ∷ old) series points all stored moves linked turned was holds = absurd was
  all_held (k ∷ kept) [] series points all stored moves linked turned was holds = absurd was
  all_held (k ∷ kept) (o ∷ old) [] points all stored moves linked turned was holds = absurd linked
  all_held (k ∷ kept) (o ∷ old) (so ∷ series) [] all stored moves linked turned was holds = absurd linked
  all_held (k ∷ kept) (o ∷ old) (so ∷ series) (ps ∷ points) [] stored moves linked turned was holds = absurd linked
  all_held (k ∷ kept) (o ∷ old) (so ∷ series) (ps ∷ points) (made ∷ all) [] moves linked turned was holds = absurd turned
  all_held (k ∷ kept) (o ∷ old) (so ∷ series) (ps ∷ points) (made ∷ all) (s ∷ stored) [] linked turned was holds = absurd turned
  all_held (k ∷ kept) (o ∷ old) (so ∷ series) (ps ∷ points) (made ∷ all) (s ∷ stored) (own ∷ moves) linked turned was holds =
      (one_held k o so ps made s own linked.0 turned.0 was.0 holds.0, all_held kept old series points all stored moves linked.1 turned.1 was.1 holds.1)

  -- from what is known place by place
  pub linked_by_place : (kept : List Kept) (series : List SeriesOf) (points : List (List Point)) (all : List Made) → length series ≡ length kept → length points ≡ length kept → length all ≡ length kept
      → ((i : ℕ) (k : Kept) (so : SeriesOf) (ps : List Point) (made : Made) → slice_get kept i ≡ Some k → slice_get series i ≡ Some so → slice_get points i ≡ Some ps → slice_get all i ≡ Some made → IsLinked k so ps made)
      → AreLinked kept series points all
  linked_by_place [] [] [] [] a b c each = tt
  linked_by_place [] (so ∷ series) points all a b c each = absurd (omega (arith, a))
  linked_by_place [] [] (ps ∷ points) all a b c each = absurd (omega (arith, b))
  linked_by_place [] [] [] (made ∷ all) a b c each = absurd (omega (arith, c))
  linked_by_place (k ∷ kept) [] points all a b c each = absurd (omega (arith, a))
  linked_by_place (k ∷ kept) (so ∷ series) [] all a b c each = absurd (omega (arith, b))
  linked_by_place (k ∷ kept) (so ∷ series) (ps ∷ points) [] a b c each = absurd (omega (arith, c))
  linked_by_place (k ∷ kept) (so ∷ series) (ps ∷ points) (made ∷ all) a b c each =
      (each 0 k so ps made refl refl refl refl, linked_by_place kept series points all (omega (arith, a)) (omega (arith, b)) (omega (arith, c)) (λ i. each (suc i)))

  -- from what has become of each series of a metric
  pub turned_by_place : (m : Shelved) (e : ℕ) (kept : List Kept) (series : List SeriesOf) (all : List Made) (stored : List (List Stored)) (moves : List (List Move)) → m.policy ≡ policy → length kept ≡ length all → length series ≡ length all
      → ((i : ℕ) (k : Kept) → slice_get kept i ≡ Some k → slice_get m.kept (e + i) ≡ Some k) → ((i : ℕ) (k : Kept) (so : SeriesOf) → slice_get kept i ≡ Some k → slice_get series i ≡ Some so → slice_get policy.definitions k.definition ≡ Some so.definition)
      → AreTurned m pieces e all stored moves → AreTurnedAs kept series all stored moves
  turned_by_place m e [] [] [] [] [] same a b there of are = tt
  turned_by_place m e [] [] [] [] (own ∷ moves) same a b there of are = absurd are
  turned_by_place m e [] [] [] (s ∷ stored) moves same a b there of are = absurd are
  turned_by_place m e [] [] (made ∷ all) stored moves same a b there of are = absurd (omega (arith, a))
  turned_by_place m e [] (so ∷ series) [] stored moves same a b there of are = absurd (omega (arith, b))
  turned_by_place m e [] (so ∷ series) (made ∷ all) stored moves same a b there of are = absurd (omega (arith, a))
  turned_by_place m e (k ∷ kept) series [] stored moves same a b there of are = absurd (omega (arith, a))
  turned_by_place m e (k ∷ kept) [] (made ∷ all) stored moves same a b there of are = absurd (omega (arith, b))
  turned_by_place m e (k ∷ kept) (so ∷ series) (made ∷ all) [] moves same a b there of are = absurd are
  turned_by_place m e (k ∷ kept) (so ∷ series) (made ∷ all) (s ∷ stored) [] same a b there of are = absurd are
  turned_by_place m e (k ∷ kept) (so ∷ series) (made ∷ all) (s ∷ stored) (own ∷ moves) same a b there of are =
      let here : slice_get m.kept e ≡ Some k = (let z : e ≡ e + 0 = omega arith in ap (slice_get m.kept) z) ∙ there 0 k refl in (
        are.0 k so.definition here (subst (λ (q : ArchivePolicy). slice_get q.definitions k.definition ≡ Some so.definition) (sym same) (of 0 k so refl refl)),
        turned_by_place m (e + 1) kept series all stored moves same (omega (arith, a)) (omega (arith, b))
            (λ i j is. (let z : (e + 1) + i ≡ e + suc i = omega arith in ap (slice_get m.kept) z) ∙ there (suc i) j is) (λ i. of (suc i)) are.1,
      )

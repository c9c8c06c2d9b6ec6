-- Each series of a metric with its definition, its kind and its new points.
use Rattle.std.proofs.Common.{◌≡◌, ℕ, zero, suc, ◌+◌, ◌*◌, ◌/◌, ◌%◌, List, [], ◌∷◌, length, map, slice_get, slice_index_or, Some, refl, sym, ap, subst, ◌∙◌, arith, length-append}
use Rattle.std.specs.List.{All, AllZip, flat_map}
use Rattle.std.proofs.Math.Nat.{suc-mul}
use Rattle.std.proofs.lemmas.List.{length-map}
use Rattle.std.proofs.lemmas.Option.{get_or_from_slice_get, none-some, same_Some, slice_get-get_or}
use Rattle.archive_policy.specs.declared.definition.Definition.{Definition}
use Rattle.archive_policy.specs.declared.kind.Kind.{Kind}
use Rattle.archive_policy.specs.declared.kind.Kind.TheVariants.{Mean}
use Rattle.archive_policy.specs.Policies.{ArchivePolicy}
use Rattle.series_model.specs.declared.point.Point.{Point}
use Rattle.series_model.specs.declared.point.Split.{Split}
use Rattle.bound_series.specs.Jobs.{IsPrepared, PreparedView, list_at, place_in, points_for}
use Rattle.bound_series.proofs.Preparing.{own_place}
use Rattle.split_update.specs.Live.{SeriesOf, all_splits_after, series_under}
use Rattle.shelf_records.specs.declared.moves.Move.{Move}
use Rattle.shelf_records.specs.declared.series.Stored.{Stored}
use Rattle.shelf_records.specs.Changes.{all_moved}
use Rattle.shelf_records.specs.Filed.{IsFiled, emptied}
use Rattle.shelf_records.specs.Shelved.{Kept, Shelved}
use Rattle.block_slots.specs.declared.slots.Piece.{Piece}
use Rattle.block_slots.specs.Slots.{FillsSlot}
use Rattle.shelf_blocks.specs.declared.turn.Made.{Made}
use Rattle.shelf_blocks.specs.Blocks.{HoldsSplits}
use Rattle.shelf_blocks.specs.Turns.{AreMade, AreTurned, IsMade}
use Rattle.shelf_blocks.proofs.SeriesPlaces.{get_left, get_mapped, get_right, get_within, series_at}
use Rattle.shelf_blocks.proofs.TurnedLemmas.{length-none, place_is}
use Rattle.shelf_blocks.proofs.Committed.{all_held, linked_by_place, turned_by_place}

-- a definition with each kind
abbrev with_kinds : List Kind → Definition → List SeriesOf
with_kinds kinds d = map (λ kind. record { definition = d; kind = kind }) kinds

under_length : (kinds : List Kind) (ds : List Definition) → length (flat_map (with_kinds kinds) ds) ≡ length ds * length kinds
under_length kinds [] = omega arith
under_length kinds (d ∷ ds) =
    omega (arith, length-append (with_kinds kinds d) (flat_map (with_kinds kinds) ds), length-map kinds (λ kind. let s : SeriesOf = record { definition = d; kind = kind } in s), under_length kinds ds, suc-mul (length ds) (length kinds))

under_at : (kinds : List Kind) (ds : List Definition) (i k : ℕ) (d : Definition) (kind : Kind) → slice_get kinds k ≡ Some kind → slice_get ds i ≡ Some d → slice_get (flat_map (with_kinds kinds) ds) (i * length kinds + k) ≡ Some (record { definition = d; kind = kind })
under_at kinds [] i k d kind is of = absurd (none-some d of)
under_at kinds (e ∷ ds) zero k d kind is of =
    let here : zero * length kinds + k ≡ k = omega arith in
    let short = get_within kinds k kind is in
    let f : Kind → SeriesOf = λ x. record { definition = e; kind = x } in
    ap (slice_get (flat_map (with_kinds kinds) (e ∷ ds))) here
    ∙ get_left (with_kinds kinds e) (flat_map (with_kinds kinds) ds) k (omega (arith, short, length-map kinds f))
    ∙ get_mapped f kinds k kind is
    ∙ ap (λ (x : Definition). let s : SeriesOf = record { definition = x; kind = kind } in Some s) (same_Some e d of)
under_at kinds (e ∷ ds) (suc i) k d kind is of =
    let f : Kind → SeriesOf = λ x. record { definition = e; kind = x } in
    let there : suc i * length kinds + k ≡ length (with_kinds kinds e) + (i * length kinds + k) = omega (arith, length-map kinds f, suc-mul i (length kinds)) in
    ap (slice_get (flat_map (with_kinds kinds) (e ∷ ds))) there
    ∙ get_right (with_kinds kinds e) (flat_map (with_kinds kinds) ds) (i * length kinds + k)
    ∙ under_at kinds ds i k d kind is of

module _ (m : Shelved) (filed : IsFiled m) where
  long : length m.kept ≡ length m.policy.definitions * length m.policy.kinds
  long = sym (length-map m.kept emptied) ∙ ap length filed.layout ∙ length-none m.policy.kinds 0 m.policy.definitions

  pub long_under : length (series_under m.policy) ≡ length m.kept
  long_under = under_length m.policy.kinds m.policy.definitions ∙ sym long

  -- the definition of the series at a place
  pub same_definition : (j : ℕ) (kept : Kept) (so : SeriesOf) → slice_get m.kept j ≡ Some kept → slice_get (series_under m.policy) j ≡ Some so → slice_get m.policy.definitions kept.definition ≡ Some so.definition
  same_definition j kept so there under =
      let n = length m.policy.kinds in
      let at = place_is m j filed (get_within m.kept j kept there) in
      let k = j % n in
      let kind = slice_index_or m.policy.kinds k Mean in
      let kind_is = slice_get-get_or m.policy.kinds k Mean at.kind in
      let d = slice_index_or m.policy.definitions (j / n) so.definition in
      let d_is = slice_get-get_or m.policy.definitions (j / n) so.definition at.definition in
      let of = series_at m (j / n) k kind kept filed kind_is at.definition (ap (slice_get m.kept) (sym at.whole) ∙ there) in
      let same : so ≡ record { definition = d; kind = kind } = same_Some so (record { definition = d; kind = kind }) (sym under ∙ ap (slice_get (series_under m.policy)) at.whole ∙ under_at m.policy.kinds m.policy.definitions (j / n) k d kind kind_is d_is) in
      ap (slice_get m.policy.definitions) of.definition ∙ d_is ∙ ap Some (sym (ap (λ s. s.definition) same))

  -- its new points
  pub same_points : (p : PreparedView) (j : ℕ) (kept : Kept) (ps : List Point) → p.job.policy ≡ m.policy → slice_get m.kept j ≡ Some kept → slice_get p.points j ≡ Some ps → points_for p kept.definition kept.kind ≡ ps
  same_points p j kept ps same there is =
      let n = length m.policy.kinds in
      let at = place_is m j filed (get_within m.kept j kept there) in
      let k = j % n in
      let kind = slice_index_or m.policy.kinds k Mean in
      let kind_is = slice_get-get_or m.policy.kinds k Mean at.kind in
      let of = series_at m (j / n) k kind kept filed kind_is at.definition (ap (slice_get m.kept) (sym at.whole) ∙ there) in
      ap (λ (q : ArchivePolicy). list_at p.points (length q.kinds) kept.definition (place_in q.kinds kept.kind)) same
      ∙ ap (λ (i : ℕ). list_at p.points n i (place_in m.policy.kinds kept.kind)) of.definition
      ∙ ap (λ (x : Kind). list_at p.points n (j / n) (place_in m.policy.kinds x)) of.kind_is
      ∙ ap (list_at p.points n (j / n)) (own_place m.policy.kinds k kind filed.kinds.in_table_order kind_is)
      ∙ ap (λ (i : ℕ). slice_index_or p.points i []) (sym at.whole)
      ∙ get_or_from_slice_get p.points j ps [] is

-- What the blocks hold of a metric's splits once a commit has written its pieces.
pub committed_splits : (z new : List ℕ) (m : Shelved) (p : PreparedView) (old : List (List Split)) (all : List Made) (stored : List (List Stored)) (moves : List (List Move)) (pieces : List Piece) → IsFiled m → IsPrepared p → p.job.policy ≡ m.policy
    → length all ≡ length m.kept → AreMade (Some z) m p all → AreTurned m pieces 0 all stored moves → All (FillsSlot new) pieces → AllZip (HoldsSplits z m.policy) m.kept old → AllZip (HoldsSplits new m.policy) m.kept old
    → AllZip (HoldsSplits new m.policy) (all_moved m.kept moves) (all_splits_after (series_under m.policy) p.raw.last p.from p.points old)
committed_splits z new m p old all stored moves pieces filed prepared same count made turned fills was holds =
    let points_long : length p.points ≡ length m.kept = prepared.number ∙ ap (λ (q : ArchivePolicy). length q.definitions * length q.kinds) same ∙ sym (long m filed) in
    let linked = linked_by_place z new m.policy p.raw.last p.from pieces fills m.kept (series_under m.policy) p.points all (long_under m filed) points_long count
    (λ j kept so ps one there under is made_is.
    let defined = same_definition m filed j kept so there under in
    record { defined = defined; is = subst (λ (l : List Point). IsMade (Some z) so.definition p.raw.last p.from l kept.splits one) (same_points m filed p j kept ps same there is) (made j one made_is kept so.definition there defined) }) in
    let become = turned_by_place z new m.policy p.raw.last p.from pieces fills m 0 m.kept (series_under m.policy) all stored moves refl (sym count) (long_under m filed ∙ sym count)
    (λ i k is. (let e : 0 + i ≡ i = omega arith in ap (slice_get m.kept) e) ∙ is) (same_definition m filed) turned in
    all_held z new m.policy p.raw.last p.from pieces fills m.kept old (series_under m.policy) p.points all stored moves linked become was holds

use Rattle.std.proofs.Common.{rules, ◌≡◌, ◌+◌, ◌++◌, ◌∷◌, [], ℕ, List, vec_len, length, map, take, drop, Some, refl, sym, ap, subst, ◌∙◌, arith, append_assoc, length-drop, take-append-drop}
use Rattle.std.proofs.lemmas.List.{append-nil, drop_all, length-take-le, map-append, take_all, take_more}
use Rattle.std.specs.List.{flat_map}
use Rattle.std.proofs.lemmas.List.Concat.{flat_map-append}
use Rattle.std.proofs.lemmas.List.Elements.{All-append, All-nil}
use Rattle.std.proofs.lemmas.Option.{slice_get-get_or}
use Rattle.shelf_records.specs.Moves.{blocks_of_moves}
use Rattle.shelf_blocks.specs.Pieces.{IsPiece, block_of}
use Rattle.shelf_records.specs.declared.moves.Move.{Move}
use Rattle.shelf_records.specs.declared.series.Stored.{Stored}
use Rattle.block_slots.specs.declared.slots.Piece.{Piece}
use Rattle.shelf_blocks.specs.declared.turn.Made.{Made}
use Rattle.shelf_blocks.specs.Turns.{AreTurned, IsTurnedAt, made_count}
use Rattle.shelf_blocks.proofs.TurnedLemmas.{are_turned_more, count_left, no_items, one_turned_more}
use Rattle.shelf_blocks.proofs.turned.turn_all.Goals as goal

pub loop-place-init : goal.loop-place-init
loop-place-init c = record {
  pieces = ([], sym (append-nil c.args.pieces.now.items), refl, All-nil IsPiece, ap (λ ms. flat_map blocks_of_moves (map (λ own. own.items) ms)) c.in_ok-moves.ensures.items);
  left = c.requires.places;
  turned = subst (λ (ss : List (List Stored)). AreTurned c.args.filed.now c.args.pieces.now.items 0 [] ss (map (λ own. own.items) c.in_ok-moves.moves.items)) (sym c.in_ok-series.ensures.items)
      (subst (λ ms. AreTurned c.args.filed.now c.args.pieces.now.items 0 [] [] (map (λ own. own.items) ms)) (sym c.in_ok-moves.ensures.items) tt);
}

pub split_at-requires : goal.split_at-requires
split_at-requires c =
    let inv = c.loop-place.invariant in
    let made = c.index-all-place.result in
    let left = inv.left in
    let long : vec_len made.splits ≡ length made.splits.items = search rules in
    omega (arith, left, count_left c.args.all.now c.loop-place.place made c.loop-place-test.true c.index-all-place.is, c.len.ensures, long)

pub turn_one-requires-clause-fits : goal.turn_one-requires-clause-fits
turn_one-requires-clause-fits c =
    let made = c.index-all-place.result in
    c.requires.fit c.loop-place.place made (slice_get-get_or c.args.all.now c.loop-place.place made c.loop-place-test.true ∙ ap Some (sym c.index-all-place.is))

pub loop-place-preserved : goal.loop-place-preserved
loop-place-preserved c =
    let m = c.args.filed.now in
    let all = c.args.all.now in
    let i = c.loop-place.place in
    let inv = c.loop-place.invariant in
    let lt = c.loop-place-test.true in
    let made = c.index-all-place.result in
    let rest = c.loop-place.rest.now in
    let n = c.len.result in
    let long : n ≡ length made.splits.items = search rules in
    let turned = c.in_ok-turned.turned in
    let moved = c.in_ok-turned.moved in
    let new = c.turn_one.new.pieces.items in
    let more = inv.pieces in
    let next = c.in_ok-turned.ensures.pieces in
    let series : c.push.new.self.items ≡ c.loop-place.series.items ++ turned ∷ [] = search rules in
    let moves : c.push-in-loop-place.new.self.items ≡ c.loop-place.moves.items ++ moved ∷ [] = search rules in
    let taken : take (i + 1) all ≡ take i all ++ made ∷ [] = take_more all i made lt ∙ ap (λ (x : Made). take i all ++ x ∷ []) (sym c.index-all-place.is) in
    let place : i ≡ 0 + length (take i all) = omega (arith, lt, length-take-le i all (omega (arith, lt))) in
    let one = subst (λ (k : ℕ). IsTurnedAt m new k made turned moved.items) place c.in_ok-turned.ensures.turned in
    let before = subst (λ (ps : List Piece). AreTurned m ps 0 (take i all) c.loop-place.series.items (map (λ own. own.items) c.loop-place.moves.items)) (sym next.1)
    (are_turned_more m 0 c.loop-place.pieces.items next.0 (take i all) c.loop-place.series.items (map (λ own. own.items) c.loop-place.moves.items) inv.turned) in
    let front = c.split_at.ensures.front in
    let back = c.split_at.ensures.back in
    record {
      pieces = (
        more.0 ++ next.0,
        next.1 ∙ ap (λ ps. ps ++ next.0) more.1 ∙ append_assoc c.args.pieces.now.items more.0 next.0,
        ap (λ ns. ns ++ c.split_at.result.1.now) (map-append (λ (p : Piece). p.at) more.0 next.0 ∙ ap (λ ns. map (λ (p : Piece). p.at) more.0 ++ ns) (next.2 ∙ front))
            ∙ ap (λ ns. (map (λ (p : Piece). p.at) more.0 ++ take n rest) ++ ns) back
            ∙ append_assoc (map (λ (p : Piece). p.at) more.0) (take n rest) (drop n rest)
            ∙ ap (λ ns. map (λ (p : Piece). p.at) more.0 ++ ns) (take-append-drop n rest) ∙ more.2,
        All-append IsPiece more.0 next.0 more.3 next.3,
        ap (λ os. flat_map blocks_of_moves (map (λ own. own.items) os)) moves ∙ ap (flat_map blocks_of_moves) (map-append (λ own. own.items) c.loop-place.moves.items (moved ∷ []))
            ∙ flat_map-append blocks_of_moves (map (λ own. own.items) c.loop-place.moves.items) (moved.items ∷ []) ∙ ap (λ bs. bs ++ (blocks_of_moves moved.items ++ [])) more.4
            ∙ ap (λ bs. map block_of more.0 ++ bs) (append-nil (blocks_of_moves moved.items) ∙ next.4) ∙ sym (map-append block_of more.0 next.0),
      );
      left = (let l = inv.left in omega (arith, ap length back, length-drop n rest, l, count_left all i made lt c.index-all-place.is, long));
      turned = subst (λ (l : List Made). AreTurned m new 0 l c.push.new.self.items (map (λ own. own.items) c.push-in-loop-place.new.self.items)) (sym taken)
          (subst (λ (ss : List (List Stored)). AreTurned m new 0 (take i all ++ made ∷ []) ss (map (λ own. own.items) c.push-in-loop-place.new.self.items)) (sym series)
          (subst (λ (os : List (List Move)). AreTurned m new 0 (take i all ++ made ∷ []) (c.loop-place.series.items ++ turned ∷ []) os) (sym (ap (map (λ own. own.items)) moves ∙ map-append (λ own. own.items) c.loop-place.moves.items (moved ∷ [])))
          (one_turned_more m 0 new (take i all) c.loop-place.series.items (map (λ own. own.items) c.loop-place.moves.items) made turned moved.items before one)));
    }

pub returns-clause-pieces : goal.returns-clause-pieces
returns-clause-pieces c =
    let inv = c.loop-place.invariant in
    let end = c.loop-place-test.false in
    let none = drop_all c.loop-place.place c.args.all.now (omega (arith, end)) in
    let left = inv.left in
    let empty : length c.loop-place.rest.now ≡ 0 = left ∙ ap made_count none in
    (inv.pieces.0, inv.pieces.1, sym (append-nil (map (λ (p : Piece). p.at) inv.pieces.0)) ∙ ap (λ ns. map (λ (p : Piece). p.at) inv.pieces.0 ++ ns) (sym (no_items c.loop-place.rest.now empty)) ∙ inv.pieces.2, inv.pieces.3, inv.pieces.4)

pub returns-clause-turned : goal.returns-clause-turned
returns-clause-turned c =
    let end = c.loop-place-test.false in
    subst (λ (l : List Made). AreTurned c.args.filed.now c.loop-place.pieces.items 0 l c.loop-place.series.items (map (λ own. own.items) c.loop-place.moves.items)) (take_all c.loop-place.place c.args.all.now (omega (arith, end))) c.loop-place.invariant.turned

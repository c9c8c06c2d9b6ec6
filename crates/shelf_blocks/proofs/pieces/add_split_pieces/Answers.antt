use Rattle.std.proofs.Common.{◌≡◌, ◌+◌, ◌++◌, ◌∷◌, [], ℕ, List, take, sym, ap, subst, ◌∙◌, arith, append_assoc}
use Rattle.std.proofs.lemmas.List.{append-nil, get_or_default, take_all}
use Rattle.series_model.specs.declared.point.Split.{Split}
use Rattle.shelf_records.specs.declared.series.Stored.{Stored}
use Rattle.shelf_blocks.specs.Pieces.{AreSplitPieces, stored_as}
use Rattle.shelf_blocks.proofs.PieceLemmas.{no_splits, split_more}
use Rattle.shelf_blocks.proofs.pieces.add_split_pieces.Goals as goal

pub loop-i-init : goal.loop-i-init
loop-i-init c = record { added = ([], sym (append-nil c.args.pieces.now.items), subst (λ (l : List Stored). AreSplitPieces c.args.granularity [] [] [] l) (sym c.in_ok-stored.ensures.items) (no_splits c.args.granularity)) }

pub loop-i-preserved : goal.loop-i-preserved
loop-i-preserved c =
    let splits = c.args.splits.now in
    let places = c.args.places.now in
    let g = c.args.granularity in
    let i = c.loop-i.i in
    let before = c.loop-i.invariant.added in
    let one = c.in_ok-found.ensures.added in
    let s = c.index-splits-i.result in
    let p = one.0 in
    let at = one.2.0 ∙ get_or_default places i 0 p.at (let lt = c.loop-i-test.true in let long = c.requires.places in omega (arith, lt, long)) in
    let more = before.0 ++ p ∷ [] in
    let pushed : c.push.new.self.items ≡ c.loop-i.stored.items ++ stored_as s p ∷ [] = c.in_ok-push.ensures.items ∙ ap (λ (f : Stored). c.loop-i.stored.items ++ f ∷ []) one.2.1.1 in
    record {
      added = (
        more,
        one.1 ∙ ap (λ ps. ps ++ p ∷ []) before.1 ∙ append_assoc c.args.pieces.now.items before.0 (p ∷ []),
        subst (λ (l : List Stored). AreSplitPieces g (take (i + 1) splits) (take (i + 1) places) more l) (sym pushed)
            (split_more g splits places i s p before.0 c.loop-i.stored.items c.loop-i-test.true c.requires.places c.index-splits-i.is at one.2.1.0 before.2),
      );
    }

pub returns : goal.returns
returns c =
    let splits = c.args.splits.now in
    let places = c.args.places.now in
    let g = c.args.granularity in
    let i = c.loop-i.i in
    let end = c.loop-i-test.false in
    let long = c.requires.places in
    let all = c.loop-i.invariant.added in (
      all.0,
      all.1,
      subst (λ (l : List Split). AreSplitPieces g l places all.0 c.loop-i.stored.items) (take_all i splits (omega (arith, end)))
          (subst (λ (ns : List ℕ). AreSplitPieces g (take i splits) ns all.0 c.loop-i.stored.items) (take_all i places (omega (arith, end, long))) all.2),
    )

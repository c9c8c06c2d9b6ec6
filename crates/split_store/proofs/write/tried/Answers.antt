use Rattle.std.proofs.Common.{◌≡◌, ◌+◌, ◌++◌, ◌∷◌, [], Bool, List, true, cond, take, drop, get_or, sym, ap, ◌∙◌, append_assoc}
use Rattle.std.proofs.lemmas.List.{drop_more, take_more}
use Rattle.block_slots.specs.declared.slots.Piece.{Piece}
use Rattle.split_store.specs.Writing.{reaches_end, tried_of}
use Rattle.split_store.proofs.write.tried.Goals as goal

pub loop-i-preserved : goal.loop-i-preserved
loop-i-preserved c =
    let pieces = c.args.pieces.now in
    let i = c.loop-i.i in
    let p = c.index-pieces-i.result in
    let lt = c.loop-i-test.true in
    let here : get_or pieces i p ≡ p = sym c.index-pieces-i.is in
    let next : drop i pieces ≡ p ∷ drop (i + 1) pieces = drop_more pieces i p lt ∙ ap (λ (x : Piece). x ∷ drop (i + 1) pieces) here in
    let goes : reaches_end p ≡ true = sym c.is_within.ensures ∙ c.if-not-is_within.false in
    let more : take (i + 1) pieces ≡ take i pieces ++ p ∷ [] = take_more pieces i p lt ∙ ap (λ (x : Piece). take i pieces ++ x ∷ []) here in
    c.loop-i.invariant ∙ ap (λ (l : List Piece). take i pieces ++ tried_of l) next ∙ ap (λ (t : Bool). take i pieces ++ cond t (p ∷ tried_of (drop (i + 1) pieces)) (p ∷ [])) goes
    ∙ sym (append_assoc (take i pieces) (p ∷ []) (tried_of (drop (i + 1) pieces))) ∙ ap (λ (l : List Piece). l ++ tried_of (drop (i + 1) pieces)) (sym more)

use Rattle.std.proofs.Common.{◌≡◌, List, length, sym, ap, ◌∙◌, arith, rules}
use Rattle.shelf_records.specs.declared.series.Stored.{Stored}
use Rattle.shelf_records.proofs.Keys.{keys_stored, length-stored}
use Rattle.shelf_records.proofs.Merging.{IsTurn, keys_of, turn}
use Rattle.shelf_records.proofs.series.Series.turned.Goals as goal

pub moves_to-requires : goal.moves_to-requires
moves_to-requires c =
    let s = c.self.inside in
    let long : length c.args.self.now ≡ length s.keys.items = ap length (sym c.self.view_is) ∙ length-stored s.keys.items s.blocks.items c.self.invariant.paired in
    (c.requires.within.0, rw c.deref.ensures.value (omega (arith, c.requires.within.1, long)))

is_turn : (c : goal.In_ok-series) → IsTurn c.args.first c.args.until c.args.self.now c.args.made.now c.in_ok-moves.moves.items
is_turn c =
    let s = c.self.inside in
    let keys_are : s.keys.items ≡ keys_of c.args.self.now = sym (keys_stored s.keys.items s.blocks.items c.self.invariant.paired) ∙ ap (λ (l : List Stored). keys_of l) c.self.view_is in
    turn c.args.first c.args.until s.keys.items c.args.self.now c.args.made.now c.in_ok-moves.moves.items c.requires.within.0 keys_are c.self.invariant.rising c.requires.rising (search rules)

pub returns-clause-leads : goal.returns-clause-leads
returns-clause-leads c = (is_turn c).leads

pub returns-clause-rising : goal.returns-clause-rising
returns-clause-rising c = (is_turn c).rising

pub returns-clause-made : goal.returns-clause-made
returns-clause-made c = (is_turn c).put

pub returns-clause-gone : goal.returns-clause-gone
returns-clause-gone c = (is_turn c).gone

pub returns-clause-blocks : goal.returns-clause-blocks
returns-clause-blocks c = (is_turn c).blocks

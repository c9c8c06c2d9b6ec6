use Rattle.std.proofs.Common.{◌≡◌, ◌++◌, List, true, false, sym, subst, rules}
use Rattle.gno_codec.specs.declared.item.Change.{Change}
use Rattle.shelf_records.specs.Book.{freed_blocks, places_of}
use Rattle.shelf_records.specs.Slots.{AreHeld}
use Rattle.shelf_records.proofs.Following.{at_false, at_true}
use Rattle.shelf_records.proofs.Metrics.{held_again}
use Rattle.shelf_records.proofs.book.follow_at.Goals as goal

pub give_freed-requires-clause-held : goal.give_freed-requires-clause-held
give_freed-requires-clause-held c =
    let m = c.args.filed.now in
    let slots = c.requires.held.0 in
    (slots, subst (λ (cs : List Change). AreHeld (places_of (freed_blocks m cs) ++ slots) c.reserve.new.self) (sym c.items-2.ensures) (held_again (places_of (freed_blocks m c.args.item.changes) ++ slots) c.args.used.now c.reserve.new.self c.reserve.ensures.end c.reserve.ensures.free c.requires.held.1))

pub returns-then-not-claimed-clause-refused : goal.returns-then-not-claimed-clause-refused
returns-then-not-claimed-clause-refused c slots held apart =
    let m = c.args.filed.now in
    let no : c.in_ok-claimed.claimed ≡ false = search rules in
    let given = c.give_freed.ensures slots (subst (λ (cs : List Change). AreHeld (places_of (freed_blocks m cs) ++ slots) c.reserve.new.self) (sym c.items-2.ensures) (held_again (places_of (freed_blocks m c.args.item.changes) ++ slots) c.args.used.now c.reserve.new.self c.reserve.ensures.end c.reserve.ensures.free held)) in
    at_false c.in_ok-claimed.claimed no (c.in_ok-claimed.ensures {u = tt}).refused slots given apart

pub returns-clause-held : goal.returns-clause-held
returns-clause-held c slots held =
    let m = c.args.filed.now in
    let yes : c.in_ok-claimed.claimed ≡ true = search rules in
    let given = c.give_freed.ensures slots (subst (λ (cs : List Change). AreHeld (places_of (freed_blocks m cs) ++ slots) c.reserve.new.self) (sym c.items-2.ensures) (held_again (places_of (freed_blocks m c.args.item.changes) ++ slots) c.args.used.now c.reserve.new.self c.reserve.ensures.end c.reserve.ensures.free held)) in
    at_true c.in_ok-claimed.claimed yes (c.in_ok-claimed.ensures {u = tt}).claimed slots given

use Rattle.std.proofs.Common.{◌≡◌, ◌++◌, ◌<◌, true, false, length, take, arith, rules}
use Rattle.shelf_records.proofs.Taking.{all_taken, first_all, first_more, held_more, held_same, none_all}
use Rattle.shelf_records.proofs.slots.take_slots.Goals as goal

pub take_slot-next-requires : goal.take_slot-next-requires
take_slot-next-requires c = (_, c.loop-i.invariant.held c.requires.0 c.requires.1)

pub returns-then-not-next-clause-held : goal.returns-then-not-next-clause-held
returns-then-not-next-clause-held c slots held =
    let full : c.take_slot-next.result.taken ≡ false = search rules in
    held_same slots c.loop-i.places c.loop-i.i c.take_slot-next.result.at c.loop-i.used c.take_slot-next.new.used (c.take_slot-next.ensures.full full).0 (c.loop-i.invariant.held slots held)

pub returns-then-not-next-clause-first : goal.returns-then-not-next-clause-first
returns-then-not-next-clause-first c slots held =
    let full : c.take_slot-next.result.taken ≡ false = search rules in
    let below : c.loop-i.i < length c.loop-i.places = omega arith in
    first_all slots c.loop-i.places c.loop-i.i c.take_slot-next.result.at below (c.loop-i.invariant.first slots held) (c.take_slot-next.ensures.first (take c.loop-i.i c.loop-i.places ++ slots) (c.loop-i.invariant.held slots held)) (c.take_slot-next.ensures.full full).1

pub returns-then-not-next-clause-all : goal.returns-then-not-next-clause-all
returns-then-not-next-clause-all c all =
    let full : c.take_slot-next.result.taken ≡ false = search rules in
    let below : c.loop-i.i < length c.loop-i.places = omega arith in
    absurd (none_all c.loop-i.places c.loop-i.i c.take_slot-next.result.at below (c.take_slot-next.ensures.full full).1 all)

pub loop-i-preserved : goal.loop-i-preserved
loop-i-preserved c =
    let some : c.take_slot-next.result.taken ≡ true = search rules in
    let below : c.loop-i.i < length c.loop-i.places = omega arith in
    record {
      held = λ slots held. held_more slots c.loop-i.places c.loop-i.i c.take_slot-next.result.at c.take_slot-next.new.used below (c.take_slot-next.ensures.taken some (take c.loop-i.i c.loop-i.places ++ slots) (c.loop-i.invariant.held slots held));
      first = λ slots held. first_more slots c.loop-i.places c.loop-i.i c.take_slot-next.result.at below (c.loop-i.invariant.first slots held) (c.take_slot-next.ensures.first (take c.loop-i.i c.loop-i.places ++ slots) (c.loop-i.invariant.held slots held));
      spare = omega arith;
    }

pub returns-clause-held : goal.returns-clause-held
returns-clause-held c slots held = all_taken slots c.loop-i.places c.loop-i.i c.loop-i.used (omega arith) (c.loop-i.invariant.held slots held)

pub returns-clause-first : goal.returns-clause-first
returns-clause-first c slots held k d lt all = c.loop-i.invariant.first slots held k d (omega arith)

use Rattle.std.proofs.Common.{refl, sym, subst, rules}
use Rattle.shelf_records.specs.Slots.{IsFirstFree}
use Rattle.shelf_records.proofs.Holding.{end_first, first_taken, taken_held}
use Rattle.shelf_records.proofs.slots.take_slot.Goals as goal

pub returns-then-is_full-clause-first : goal.returns-then-is_full-clause-first
returns-then-is_full-clause-first c slots held =
    subst (IsFirstFree slots) (sym c.end.ensures) (end_first slots c.args.used.now held (c.if-is_full.ensures.full refl).0)

pub returns-clause-first : goal.returns-clause-first
returns-clause-first c slots held =
    (first_taken slots c.args.used.now held c.take.new.self c.take.result c.take.ensures.used c.take.ensures.exact (search rules)).0

pub returns-clause-taken : goal.returns-clause-taken
returns-clause-taken c is slots held =
    let first = first_taken slots c.args.used.now held c.take.new.self c.take.result c.take.ensures.used c.take.ensures.exact (search rules) in
    taken_held slots c.args.used.now held c.take.new.self c.take.result c.take.ensures.used c.take.ensures.form first.0.aligned first.1 first.2

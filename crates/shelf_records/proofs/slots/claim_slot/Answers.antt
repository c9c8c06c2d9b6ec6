use Rattle.std.proofs.Common.{Bool, true, false}
use Rattle.std.specs.Bool.{OnFalse, OnTrue}
use Rattle.shelf_records.proofs.Holding.{claimed_held, refused_held}
use Rattle.shelf_records.proofs.slots.claim_slot.Goals as goal

on_true : {P Q : Type 0} (b : Bool) → OnTrue b P → (P → Q) → OnTrue b Q
on_true true is then = then is
on_true false is then = is

on_false : {P Q : Type 0} (b : Bool) → OnFalse b P → (P → Q) → OnFalse b Q
on_false true is then = is
on_false false is then = then is

pub returns-clause-claimed : goal.returns-clause-claimed
returns-clause-claimed c =
    on_true c.in_ok-claimed.claimed (c.in_ok-claimed.ensures {u = tt}).claimed (λ claims slots held. claimed_held slots c.args.used.now held c.claim.new.self c.args.at c.requires.aligned c.requires.within claims c.claim.ensures.form)

pub returns-clause-refused : goal.returns-clause-refused
returns-clause-refused c =
    on_false c.in_ok-claimed.claimed (c.in_ok-claimed.ensures {u = tt}).refused (λ refused slots held. refused_held slots c.args.used.now held c.args.at c.requires.aligned refused.0)

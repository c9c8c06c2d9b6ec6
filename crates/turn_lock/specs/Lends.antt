-- What holds a value once the borrow of it has ended.
use Rattle.std.specs.Borrow.{Lends, Fml, RattleType, MutBor}
use Rattle.turn_lock.specs.Knowledge.{Holding}
use Rattle.turn_lock.specs.contracts.held.Held.{the_row}

module _ (T E : RattleType) (h : MutBor (Holding T.Denot E.Denot)) where
  -- the value is what was written last, and what the pass knows is the same
  abbrev pub LendsValue : MutBor T.Denot → Fml
  LendsValue r = Lends (the_row T E) T h r (λ w. record { value = w; pass = h.now.pass })

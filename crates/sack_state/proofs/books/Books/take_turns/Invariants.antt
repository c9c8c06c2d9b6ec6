use Rattle.std.proofs.Common.{◌≡◌}
use Rattle.sack_state.specs.Books.{AreLasting, AreWhole}
use Rattle.sack_state.specs.Committing.{TurnsTaken}
use Rattle.sack_state.proofs.books.Books.take_turns.Given as goal

-- so many turns were taken, and the books haven't broken
abbrev pub invariant-loop-turn : goal.invariant-loop-turn
invariant-loop-turn g l =
    TurnsTaken g.D.Disk l.fn.only l.fn.held l.fn.self l.self l.turns l.held × AreWhole l.self × (AreLasting g.D.Disk l.fn.self → AreLasting g.D.Disk l.self) × (l.turns ≡ l._turn)

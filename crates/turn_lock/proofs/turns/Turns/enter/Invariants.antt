use Rattle.std.proofs.Common.{◌≡◌}
use Rattle.turn_lock.specs.Knowledge.{StandsFrom}
use Rattle.turn_lock.proofs.turns.Turns.enter.Given as goal

abbrev pub ghosts-try_take : goal.ghosts-try_take
ghosts-try_take g a = record { found = StandsFrom g.T.Stands.stands g.T.Stands.origin a.self.now.origin }

abbrev pub invariant-loop : goal.invariant-loop
invariant-loop g l =
    (goal.iterator-loop g).can_next l.iterator' × (goal.iterator-loop g).is_finite l.iterator'
    × (l.seat.table_id ≡ l.initial.seat.table_id) × (l.seat.me ≡ l.initial.seat.me)

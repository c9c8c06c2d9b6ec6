use Rattle.turn_lock.proofs.Steps.{split_idle}
use Rattle.turn_lock.proofs.turns.Turns.split_pass.Goals as goal

pub invariant_of-result : goal.invariant_of-result
invariant_of-result g c = split_idle c.pass.inside.seat.me.0 _ c.part-seat.ensures.right c.part-seat.ensures.none

pub returns-clause-own : goal.returns-clause-own
returns-clause-own g c = (invariant_of-result g c).own

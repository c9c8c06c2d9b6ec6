use Rattle.gate_log.proofs.MadeLemmas.{ArePlaced}
use Rattle.gate_log.proofs.place.add_places.Given as goal

abbrev pub invariant-records : goal.invariant-records
invariant-records l = ArePlaced l.fn.places l.places l.end l.first l.rest l.body-index

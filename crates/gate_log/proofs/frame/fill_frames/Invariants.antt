use Rattle.gate_log.proofs.MadeLemmas.{IsFilled}
use Rattle.gate_log.proofs.frame.fill_frames.Given as goal

abbrev pub invariant-records : goal.invariant-records
invariant-records l = IsFilled l.fn.frame l.frame l.first l.rest l.body-index

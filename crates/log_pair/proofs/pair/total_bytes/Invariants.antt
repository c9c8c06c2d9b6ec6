use Rattle.std.proofs.Common.{◌≡◌, ◌∷◌, take}
use Rattle.gate_log.specs.Records.{bodies_of, total_length}
use Rattle.log_pair.proofs.pair.total_bytes.Given as goal

-- the total so far
abbrev pub invariant-loop-body : goal.invariant-loop-body
invariant-loop-body l = l.total ≡ total_length (l.first ∷ bodies_of (take l.body-index l.rest))

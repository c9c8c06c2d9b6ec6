use Rattle.std.proofs.Common.{◌≡◌, ◌≤◌, ℕ, List, take}
use Rattle.series_model.specs.declared.measure.Measure.{Measure}
use Rattle.series_model.specs.Accepted.{latest}
use Rattle.series_model.specs.Tail.{accepts_from, tail_of}
use Rattle.regroup.specs.Work.{AreTaken}
use Rattle.regroup.proofs.turns.take_turns.Given as goal

-- the batches so far took their turns
abbrev pub invariant-loop-batch : goal.invariant-loop-batch
invariant-loop-batch l =
    (cut : ℕ) (accepted : List Measure) → cut ≤ accepts_from l.policy (latest accepted) → l.base ≡ tail_of cut accepted
    → AreTaken l.policy cut accepted (take l.batch-index l.batches) l.raw l.from

use Rattle.std.proofs.Common.{◌≡◌, drop}
use Rattle.series_model.specs.Accepted.{accepted_of, accepted_onto}
use Rattle.series_model.proofs.window.accepted_within.Given as goal

-- the turns so far and those of what is left are all turns
abbrev pub invariant-loop-batch : goal.invariant-loop-batch
invariant-loop-batch l =
    accepted_onto l.largest l.back_window l.turns (drop l.batch-index l.batches) ≡ accepted_of l.largest l.back_window l.batches

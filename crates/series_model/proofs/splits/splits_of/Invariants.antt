use Rattle.std.proofs.Common.{◌≡◌, map, take}
use Rattle.series_model.specs.Stored.{split_at}
use Rattle.series_model.proofs.splits.splits_of.Given as goal

-- the splits of the keys so far
abbrev pub invariant-loop-key : goal.invariant-loop-key
invariant-loop-key l = l.splits.items ≡ map (split_at l.granularity l.points) (take l.key-index l.key-items)

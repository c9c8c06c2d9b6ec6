use Rattle.std.proofs.Common.{◌≡◌, map, take}
use Rattle.series_model.specs.Points.{starts_of}
use Rattle.series_model.specs.Stored.{split_span}
use Rattle.series_model.proofs.splits.keys_of.Given as goal

-- the keys of the points so far
abbrev pub invariant-loop-p : goal.invariant-loop-p
invariant-loop-p l = starts_of (split_span l.fn.granularity) (map (λ p. p.at) (take l.p-index l.points)) ≡ l.keys.items

use Rattle.std.proofs.Common.{◌≡◌, map, take}
use Rattle.series_model.specs.Points.{starts_of}
use Rattle.series_model.proofs.points.starts_of.Given as goal

-- the starts of the members so far
abbrev pub invariant-loop-m : goal.invariant-loop-m
invariant-loop-m l = starts_of l.fn.granularity (map (λ m. m.at) (take l.m-index l.series)) ≡ l.starts.items

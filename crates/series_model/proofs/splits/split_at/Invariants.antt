use Rattle.std.proofs.Common.{◌≡◌, ◌+◌, leb, ltb, ◌&&◌, take}
use Rattle.std.specs.List.{filter}
use Rattle.series_model.specs.Stored.{split_span}
use Rattle.series_model.proofs.splits.split_at.Given as goal

-- the points so far that are in the split
abbrev pub invariant-loop-p : goal.invariant-loop-p
invariant-loop-p l =
    l.own.items ≡ filter (λ p. leb l.key p.at && ltb p.at (l.key + split_span l.granularity)) (take l.p-index l.points)

use Rattle.std.proofs.Common.{◌≡◌, take}
use Rattle.std.specs.List.{filter}
use Rattle.series_model.specs.Accepted.{is_within}
use Rattle.bound_series.proofs.settle.accepted_of.Given as goal

-- the measures so far that aren't before the window
abbrev pub invariant-loop-m : goal.invariant-loop-m
invariant-loop-m l = l.accepted.items ≡ filter (is_within l.window) (take l.m-index l.measures)

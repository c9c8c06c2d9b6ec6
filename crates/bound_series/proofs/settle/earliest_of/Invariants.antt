use Rattle.std.proofs.Common.{◌≡◌, take}
use Rattle.bound_series.specs.Turn.{earliest}
use Rattle.bound_series.proofs.settle.earliest_of.Given as goal

-- the least timestamp so far
abbrev pub invariant-loop-m : goal.invariant-loop-m
invariant-loop-m l = l.first ≡ earliest (take l.m-index l.measures)

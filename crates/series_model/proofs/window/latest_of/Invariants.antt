use Rattle.std.proofs.Common.{◌≡◌, take}
use Rattle.series_model.specs.Accepted.{latest}
use Rattle.series_model.proofs.window.latest_of.Given as goal

abbrev pub invariant-loop-m : goal.invariant-loop-m
invariant-loop-m l = l.last ≡ latest (take l.m-index l.measures)

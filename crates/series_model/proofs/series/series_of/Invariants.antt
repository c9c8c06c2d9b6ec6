use Rattle.std.proofs.Common.{◌≡◌, map, take}
use Rattle.series_model.specs.Series.{series_of_measures}
use Rattle.series_model.proofs.Put.{keyed}
use Rattle.series_model.proofs.series.series_of.Given as goal

abbrev pub invariant-loop-m : goal.invariant-loop-m
invariant-loop-m l = l.by_time.entries ≡ map keyed (series_of_measures (take l.m-index l.accepted))

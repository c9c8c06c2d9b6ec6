use Rattle.std.proofs.Common.{suc, ◌<◌, ℕ, get_or}
use Rattle.series_model.specs.declared.measure.Measure.{Measure}
use Rattle.bound_series.proofs.settle.rises.Given as goal

-- times rise so far
abbrev pub invariant-loop-i : goal.invariant-loop-i
invariant-loop-i l = (k : ℕ) (d : Measure) → suc k < l.i → (get_or l.measures k d).at < (get_or l.measures (suc k) d).at

use Rattle.std.proofs.Common.{◌≡◌, ◌+◌, ◌≤◌, drop}
use Rattle.series_model.specs.Bucket.{distinct_count}
use Rattle.series_model.proofs.kinds.distinct_count.Given as goal

abbrev pub invariant-loop-i : goal.invariant-loop-i
invariant-loop-i l = record {
  rest : l.count + distinct_count (drop l.i l.values) ≡ distinct_count l.values;
  few : l.count ≤ l.i;
}

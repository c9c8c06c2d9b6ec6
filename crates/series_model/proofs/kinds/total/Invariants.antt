use Rattle.std.proofs.Common.{◌≡◌, ◌*◌, ◌^◌, ◌≤◌, take, unsigned_abs}
use Rattle.series_model.specs.Bucket.{total}
use Rattle.series_model.proofs.kinds.total.Given as goal

abbrev pub invariant-loop-value : goal.invariant-loop-value
invariant-loop-value l = record {
  sum : l.sum ≡ total (take l.value-index l.values);
  small : unsigned_abs l.sum ≤ l.value-index * (2 * 10 ^ 18);
}

use Rattle.std.proofs.Common.{◌≡◌, ◌*◌, ◌^◌, ◌≤◌, take, unsigned_abs}
use Rattle.std.specs.Int.{int_max, int_min}
use Rattle.std.specs.List.{fold}
use Rattle.series_model.specs.Bucket.{total}
use Rattle.bucket_agg.proofs.sums.sums_of.Given as goal

abbrev pub invariant-loop-value : goal.invariant-loop-value
invariant-loop-value l = record {
  total : l.total ≡ total (take l.value-index l.values);
  small : unsigned_abs l.total ≤ l.value-index * (2 * 10 ^ 18);
  least : l.least ≡ fold int_min l.start (take l.value-index l.values);
  greatest : l.greatest ≡ fold int_max l.start (take l.value-index l.values);
}

use Rattle.std.proofs.Common.{◌≡◌, ◌≤◌, ◌+◌, ◌*◌, ◌^◌, take, length, unsigned_abs}
use Rattle.std.specs.List.{All}
use Rattle.series_model.specs.Bucket.{values_in}
use Rattle.series_model.proofs.bucket.bucket_value.Given as goal

-- the values so far
abbrev pub invariant-loop-i : goal.invariant-loop-i
invariant-loop-i l = record {
  end : l.end ≡ l.start + l.fn.granularity;
  values : l.values.items ≡ values_in l.kind l.fn.granularity (take l.i l.series) l.start;
  small : All (λ value. unsigned_abs value ≤ 2 * 10 ^ 18) l.values.items;
  few : length l.values.items ≤ l.i;
}

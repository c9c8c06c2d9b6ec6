use Rattle.std.proofs.Common.{◌≤◌, ◌*◌, ◌^◌, All, unsigned_abs}
use Rattle.bucket_agg.proofs.tests.values_of.Given as goal

-- the values so far are small
abbrev pub invariant-loop-value : goal.invariant-loop-value
invariant-loop-value l = All (λ value. unsigned_abs value ≤ 2 * 10 ^ 18) l.made.items

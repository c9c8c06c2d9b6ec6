use Rattle.std.proofs.Common.{◌≤◌, ◌*◌, ◌^◌, unsigned_abs}
use Rattle.std.specs.Prelude.{All}
use Rattle.gno_bench.proofs.batches.units_of.Given as goal

abbrev pub invariant-loop : goal.invariant-loop
invariant-loop l = All (λ value. unsigned_abs value ≤ 2 * 10 ^ 18) l.made.items

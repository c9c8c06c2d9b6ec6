use Rattle.std.proofs.Common.{◌≡◌, ◌≤◌, ◌*◌, ◌^◌, map, take, unsigned_abs}
use Rattle.std.specs.List.{All}
use Rattle.regroup.proofs.runs.values_of.Given as goal

-- the values so far
abbrev pub invariant-loop-m : goal.invariant-loop-m
invariant-loop-m l = record {
  values : l.values.items ≡ map (λ m. m.value) (take l.m-index l.run);
  small : All (λ value. unsigned_abs value ≤ 2 * 10 ^ 18) l.values.items;
}

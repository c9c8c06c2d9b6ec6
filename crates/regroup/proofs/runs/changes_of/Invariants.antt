use Rattle.std.proofs.Common.{◌≡◌, ◌≤◌, ◌*◌, ◌^◌, map, take, unsigned_abs}
use Rattle.std.specs.List.{All}
use Rattle.series_model.specs.Tail.{last_onto}
use Rattle.regroup.specs.Tallies.{changes_behind}
use Rattle.regroup.proofs.runs.changes_of.Given as goal

-- the changes so far, and the last member
abbrev pub invariant-loop-m : goal.invariant-loop-m
invariant-loop-m l = record {
  values : l.values.items ≡ map (λ m. m.value) (changes_behind l.fn.before (take l.m-index l.run));
  small : All (λ value. unsigned_abs value ≤ 2 * 10 ^ 18) l.values.items;
  previous : l.previous ≡ last_onto l.fn.before (take l.m-index l.run);
}

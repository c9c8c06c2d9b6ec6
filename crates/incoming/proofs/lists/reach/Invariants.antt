use Rattle.std.proofs.Common.{◌-◌, ◌≤◌, length}
use Rattle.incoming.specs.Lists.{IsBetween}
use Rattle.incoming.proofs.lists.reach.Given as goal

abbrev pub invariant-halves : goal.invariant-halves
invariant-halves l = record {
  order : l.from ≤ l.upto;
  limit : l.upto ≤ length l.list;
  between : IsBetween l.marks l.above l.list l.from l.upto;
}

abbrev pub decreases-halves : goal.decreases-halves
decreases-halves l = l.upto - l.from

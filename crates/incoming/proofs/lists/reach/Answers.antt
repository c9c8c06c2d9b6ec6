use Rattle.std.proofs.Common.{◌≤◌, arith}
use Rattle.incoming.proofs.lists.reach.Goals as goal

pub returns-clause-point : goal.returns-clause-point
returns-clause-point c = (λ k d le lt. c.halves.invariant.between.front k d lt, λ k d le lt. c.halves.invariant.between.back k d (omega (arith, c.halves.invariant.order)) lt)

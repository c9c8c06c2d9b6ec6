use Rattle.measure_query.specs.Seen.{IsSeen}
use Rattle.measure_query.proofs.SeenLemmas.{so_far}
use Rattle.measure_query.proofs.query.read_query.Given as goal

-- what was seen of the pairs so far
abbrev pub invariant-loop-name : goal.invariant-loop-name
invariant-loop-name l = IsSeen (so_far l.yielded) l.seen

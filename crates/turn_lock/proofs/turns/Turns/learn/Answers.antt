use Rattle.std.proofs.Common.{rules}
use Rattle.turn_lock.proofs.Steps.{learns_more, finds_own}
use Rattle.turn_lock.proofs.turns.Turns.learn.Goals as goal

-- the rule allows each of the loads
pub load-requires : goal.load-requires
load-requires g c =
    let idle = c.requires.idle in
    (search rules, search rules, search (learns_more, finds_own, idle))

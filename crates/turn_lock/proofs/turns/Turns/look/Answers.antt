use Rattle.std.proofs.Common.{rules}
use Rattle.turn_lock.proofs.Steps.{looks_on, finds_own}
use Rattle.turn_lock.proofs.turns.Turns.look.Goals as goal

-- the rule allows each of the loads
pub load-requires : goal.load-requires
load-requires g c =
    let live = c.pass.invariant.live in
    let idle = c.pass.invariant.idle in
    (search rules, search rules, search (looks_on, finds_own, live, idle))

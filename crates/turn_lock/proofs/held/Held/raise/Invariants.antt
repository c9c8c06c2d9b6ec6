use Rattle.turn_lock.specs.Knowledge.{Adds}
use Rattle.turn_lock.proofs.held.Held.raise.Given as goal

abbrev pub ghosts-tell : goal.ghosts-tell
ghosts-tell g a = record { told = Adds g.T.Stands.stands (g.W.Says.says a.turns.now.origin) a._request.now a._reply.now a.self.now.value }

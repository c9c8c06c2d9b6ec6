use Rattle.gno_disk.proofs.StopLemmas.{next_draw-wraps, drawn-shifts}
use Rattle.gno_disk.proofs.stop.Draws.next.Goals as goal

pub returns-clause-draw : goal.returns-clause-draw
returns-clause-draw c = drawn-shifts _ _ (next_draw-wraps c.args.self.now.state)

pub returns-clause-state : goal.returns-clause-state
returns-clause-state c = next_draw-wraps c.args.self.now.state

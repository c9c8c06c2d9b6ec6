use Rattle.std.proofs.Common.{arith}
use Rattle.front.proofs.look.look_in_turn.Goals as goal

pub returns-in-Err-clause-came : goal.returns-in-Err-clause-came
returns-in-Err-clause-came g c =
    let d = g.met.D.Disk in (
      d.came_more 1 6 c.args.a.now c.found_on.new.disk (omega arith) c.found_on.ensures.came,
      d.came_more 0 6 c.args.b.now c.args.b.now (omega arith) (d.came_none c.args.b.now),
    )

pub returns-in-Err-clear-clause-came : goal.returns-in-Err-clear-clause-came
returns-in-Err-clear-clause-came g c =
    let d = g.met.D.Disk in (
      d.came_then 1 5 c.args.a.now c.found_on.new.disk c.clear.new.disk c.found_on.ensures.came c.clear.ensures.came,
      d.came_more 1 6 c.args.b.now c.found_on-2.new.disk (omega arith) c.found_on-2.ensures.came,
    )

pub returns-in-Ok-clear-2-clause-came : goal.returns-in-Ok-clear-2-clause-came
returns-in-Ok-clear-2-clause-came g c =
    let d = g.met.D.Disk in (
      d.came_then 1 5 c.args.a.now c.found_on.new.disk c.clear.new.disk c.found_on.ensures.came c.clear.ensures.came,
      d.came_then 1 5 c.args.b.now c.found_on-2.new.disk c.clear-2.new.disk c.found_on-2.ensures.came c.clear-2.ensures.came,
    )

pub returns-in-Err-clear-2-clause-came : goal.returns-in-Err-clear-2-clause-came
returns-in-Err-clear-2-clause-came g c =
    let d = g.met.D.Disk in (
      d.came_then 1 5 c.args.a.now c.found_on.new.disk c.clear.new.disk c.found_on.ensures.came c.clear.ensures.came,
      d.came_then 1 5 c.args.b.now c.found_on-2.new.disk c.clear-2.new.disk c.found_on-2.ensures.came c.clear-2.ensures.came,
    )

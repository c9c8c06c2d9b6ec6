use Rattle.std.proofs.Common.{arith}
use Rattle.front.proofs.Looks.{ready_other, remade_old_or_none}
use Rattle.front.proofs.look.clear.Goals as goal

pub returns-in-Ok-clause-leaves : goal.returns-in-Ok-clause-leaves
returns-in-Ok-clause-leaves g c =
    remade_old_or_none g.D.Disk c.args.disk.now c.make_ready.new.disk (ready_other g.D.Disk c.args.found c.args.disk.now c.in-Other.is c.requires.ready) c.make_ready.ensures.any_moment

pub returns-in-Err-clause-leaves : goal.returns-in-Err-clause-leaves
returns-in-Err-clause-leaves g c =
    remade_old_or_none g.D.Disk c.args.disk.now c.make_ready.new.disk (ready_other g.D.Disk c.args.found c.args.disk.now c.in-Other.is c.requires.ready) c.make_ready.ensures.any_moment

pub returns-in-Nothing-clause-came : goal.returns-in-Nothing-clause-came
returns-in-Nothing-clause-came g c = g.met.D.Disk.came_more 0 5 c.args.disk.now c.args.disk.now (omega arith) (g.met.D.Disk.came_none c.args.disk.now)

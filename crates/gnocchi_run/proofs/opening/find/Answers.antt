use Rattle.gnocchi_run.proofs.Given.{as_many}
use Rattle.gnocchi_run.proofs.opening.find.Goals as goal

pub returns-in-Ok-clause-found : goal.returns-in-Ok-clause-found
returns-in-Ok-clause-found g c = record {
  opened = c.in-Ok.ensures.opened;
  held = c.in-Ok.ensures.held;
  exact = c.in-Ok.ensures.exact;
  stands = c.in-Ok.ensures.stands;
  unwritten = c.in-Ok.ensures.unwritten;
  came = c.in-Ok.ensures.came;
}

pub returns-in-Err-clause-unfound : goal.returns-in-Err-clause-unfound
returns-in-Err-clause-unfound g c = record { unwritten = c.in-Err.ensures.unwritten_err; came = c.in-Err.ensures.came_err; cause = c.in-Err.ensures.cause }

pub returns-in-Err-clause-kept : goal.returns-in-Err-clause-kept
returns-in-Err-clause-kept g c = as_many g.D.Disk 2 2 2 1 c.args.disks.items c.in-Err.disks.items c.in-Err.ensures.came_err

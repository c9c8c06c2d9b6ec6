use Rattle.gnocchi_run.proofs.Given.{as_many}
use Rattle.gnocchi_run.proofs.opening.make.Goals as goal

pub returns-in-Ok-clause-made : goal.returns-in-Ok-clause-made
returns-in-Ok-clause-made g c = record {
  had_none = c.in-Ok.ensures.none;
  opened = c.in-Ok.ensures.opened.0;
  maps = c.in-Ok.ensures.opened.1;
  stands = c.in-Ok.ensures.stands;
  moments = c.in-Ok.ensures.any_moment;
  came = c.in-Ok.ensures.came;
}

pub returns-in-Err-clause-unmade : goal.returns-in-Err-clause-unmade
returns-in-Err-clause-unmade g c = record { moments = c.in-Err.ensures.any_moment_err; came = c.in-Err.ensures.came_err; cause = c.in-Err.ensures.cause }

pub returns-in-Err-clause-kept : goal.returns-in-Err-clause-kept
returns-in-Err-clause-kept g c = as_many g.D.Disk 15 9 9 1 c.args.disks.items c.in-Err.disks.items c.in-Err.ensures.came_err

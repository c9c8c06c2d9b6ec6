use Rattle.front.proofs.Ready.{found_whole, made_whole}
use Rattle.front.proofs.laws.ready_disks_are_opened.Goals as goal

pub returns-clause-made : goal.returns-clause-made
returns-clause-made g c = made_whole g.D.Disk g.met.D.Disk.came_later g.met.D.Disk.came_tells

pub returns-clause-found : goal.returns-clause-found
returns-clause-found g c = found_whole g.D.Disk g.met.D.Disk.came_later g.met.D.Disk.came_tells

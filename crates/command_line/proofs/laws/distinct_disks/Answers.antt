use Rattle.command_line.proofs.DiskLemmas.{distinct}
use Rattle.command_line.proofs.laws.distinct_disks.Goals as goal

pub returns : goal.returns
returns c = distinct

use Rattle.std.proofs.Common.{◌≡◌, take}
use Rattle.front_api.specs.Seen.{capped}
use Rattle.metric_index.specs.IndexView.{sum_of_faults}
use Rattle.front.proofs.plan.faults_of.Given as goal

abbrev pub invariant-loop-disk : goal.invariant-loop-disk
invariant-loop-disk g l = l.total ≡ capped (sum_of_faults g.D.Disk (take l.disk-index l.disks))

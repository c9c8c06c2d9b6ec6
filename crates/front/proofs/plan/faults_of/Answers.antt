use Rattle.std.proofs.Common.{arith}
use Rattle.front.proofs.Sums.{sum_next}
use Rattle.front.proofs.plan.faults_of.Goals as goal

pub loop-disk-preserved : goal.loop-disk-preserved
loop-disk-preserved g c =
    let e = sum_next g.D.Disk c.args.disks.now c.loop-disk.disk-index c.disk-item.result c.loop-disk-test.true c.disk-item.is in
    omega (arith, e, c.loop-disk.invariant, c.faults.ensures, c.saturating_add-total.ensures)

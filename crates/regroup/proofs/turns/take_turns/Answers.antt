use Rattle.regroup.proofs.Taking.{taken_more}
use Rattle.regroup.proofs.turns.take_turns.Goals as goal
use Rattle.std.proofs.Common.{sym, subst}
use Rattle.regroup.specs.Work.{AreTaken}
use Rattle.std.proofs.Common.{take, ◌+◌}

pub loop-batch-preserved : goal.loop-batch-preserved
loop-batch-preserved c cut accepted le base =
    let policy = c.args.policy.now in
    let i = c.loop-batch.batch-index in
    subst (λ from. AreTaken policy cut accepted (take (i + 1) c.args.batches.now) c.accept.new.self from) (sym c.earlier_of-from.ensures)
    (taken_more policy cut accepted c.args.batches.now i c.batch-item.result c.loop-batch.raw c.accept.new.self c.loop-batch.from c.in_ok-touched.touched.from
    c.loop-batch-test.true c.batch-item.is (c.loop-batch.invariant cut accepted le base) c.in_ok-touched.ensures.from c.in_ok-touched.ensures.from_scratch)

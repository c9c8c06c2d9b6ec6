use Rattle.std.proofs.Common.{arith}
use Rattle.sack_state.proofs.BatchLemmas.{matched, missed, seen_all}
use Rattle.sack_state.proofs.committing.are_batches_up_to.Goals as goal

pub loop-number-preserved : goal.loop-number-preserved
loop-number-preserved c =
    matched c.args.upto c.args.posts.now c.args.batches.now c.loop-number.left.now c.loop-number.number-index c.loop-number.invariant c.loop-number-item.result c.loop-number-test.true c.loop-number-item.is (omega (arith, c.if-number-upto.false))
    c.in-Some.rest.now c.in-Some.ensures

pub returns-in_default : goal.returns-in_default
returns-in_default c = (
  λ h. absurd cc,
  λ same. absurd (missed c.args.upto c.args.posts.now c.args.batches.now c.loop-number.left.now c.loop-number.number-index c.loop-number.invariant c.loop-number-item.result c.loop-number-test.true c.loop-number-item.is (omega (arith, c.if-number-upto.false))
      c.in_default.ensures same),
)

pub returns : goal.returns
returns c = seen_all c.args.upto c.args.posts.now c.args.batches.now c.loop-number.left.now c.loop-number.number-index c.loop-number.invariant c.loop-number-test.false c.is_empty.result c.is_empty.ensures

use Rattle.std.proofs.Common.{◌≡◌, ◌++◌, true, false, take, rules}
use Rattle.shelf_records.specs.Book.{places_of}
use Rattle.shelf_records.proofs.Following.{all_claimed, at_false, at_true, claim_refused, claimed_more}
use Rattle.shelf_records.proofs.follow.claim_blocks.Goals as goal

pub returns-then-not-claimed-clause-refused : goal.returns-then-not-claimed-clause-refused
returns-then-not-claimed-clause-refused c slots held apart =
    let no : c.in_ok-claimed.claimed ≡ false = search rules in
    let there = at_false c.in_ok-claimed.claimed no (c.in_ok-claimed.ensures {u = tt}).refused (places_of (take c.loop-block.block-index c.args.blocks.now) ++ slots) (c.loop-block.invariant slots held) in
    claim_refused slots c.args.blocks.now c.loop-block.block-index (record { at = 0; len = 0 }) c.loop-block-test.true there apart

pub loop-block-preserved : goal.loop-block-preserved
loop-block-preserved c slots held =
    let yes : c.in_ok-claimed.claimed ≡ true = search rules in
    claimed_more slots c.args.blocks.now c.loop-block.block-index (record { at = 0; len = 0 }) c.claim_slot.new.used c.loop-block-test.true
    (at_true c.in_ok-claimed.claimed yes (c.in_ok-claimed.ensures {u = tt}).claimed (places_of (take c.loop-block.block-index c.args.blocks.now) ++ slots) (c.loop-block.invariant slots held))

pub returns-clause-claimed : goal.returns-clause-claimed
returns-clause-claimed c slots held =
    all_claimed slots c.args.blocks.now c.loop-block.block-index c.loop-block.used c.loop-block-test.false (c.loop-block.invariant slots held)

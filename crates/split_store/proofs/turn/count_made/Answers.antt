use Rattle.std.proofs.Common.{◌≡◌, ◌+◌, length, ap, arith, rules}
use Rattle.std.proofs.lemmas.List.Sums.{sum_by_more}
use Rattle.shelf_blocks.specs.declared.turn.Made.{Made}
use Rattle.split_store.proofs.turn.count_made.Goals as goal

pub loop-one-preserved : goal.loop-one-preserved
loop-one-preserved c =
    let made = c.args.made.now in
    let i = c.loop-one.one-index in
    let one = c.one-item.result in
    let len : c.len.result ≡ length one.splits.items = search rules in
    let sum : c.in_ok-count.count ≡ c.loop-one.count + c.len.result = search rules in
    let own = ap (λ (x : Made). length x.splits.items) c.one-item.is in
    omega (arith, sum, len, own, c.loop-one.invariant, sum_by_more (λ (x : Made). length x.splits.items) made i one c.loop-one-test.true)

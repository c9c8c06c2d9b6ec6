use Rattle.std.proofs.Common.{◌≡◌, ◌+◌, drop, length, ap, length-append, arith}
use Rattle.shelf_records.specs.Book.{blocks_of_kept}
use Rattle.shelf_records.proofs.Metrics.{next_kept}
use Rattle.shelf_records.proofs.filed.Filed.block_count.Goals as goal

pub loop-place-preserved : goal.loop-place-preserved
loop-place-preserved c =
    let kept = c.args.self.now.kept in
    let i = c.loop-place.place in
    let next = next_kept kept i c.series.result.now c.blocks-in-loop-place.result.now c.series.ensures c.blocks-in-loop-place.ensures in
    let sum : c.in_ok-count.count ≡ c.loop-place.count + length c.blocks-in-loop-place.result.now = (c.in_ok-count.ensures {u = tt}).1 in
    omega (arith, sum, c.loop-place.invariant, ap length next, length-append c.blocks-in-loop-place.result.now (blocks_of_kept (drop (i + 1) kept)))

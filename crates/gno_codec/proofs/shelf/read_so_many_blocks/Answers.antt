use Rattle.std.proofs.Common.{None}
use Rattle.std.proofs.lemmas.Result.{err_from_is_err_and}
use Rattle.gno_codec.specs.Reading.{items_at}
use Rattle.gno_codec.specs.ShelfReading.{block_at}
use Rattle.gno_codec.proofs.Loop.{goes_on_any, ends, is_done}
use Rattle.gno_codec.proofs.shelf.read_so_many_blocks.Goals as goal

pub returns-in_err-block : goal.returns-in_err-block
returns-in_err-block c =
    let p = err_from_is_err_and c.from_residual-in_err-block.result c.from_residual-in_err-block.ensures.1 in
    rw (p.1, p.2) (ends (λ _. block_at) c.in_err-block.field-0.0 None c.loop.blocks.items c.args.count c.loop.counter c.loop.reader (items_at (λ _. block_at) None c.args.count c.args.reader.now) c.loop-test.true c.in_err-block.ensures c.loop.invariant)

pub loop-preserved : goal.loop-preserved
loop-preserved c =
    rw c.in_ok-push.ensures.items (goes_on_any block_at c.loop.blocks.items c.args.count c.loop.counter c.loop.reader c.in_ok-block.block c.read_block.new.reader (items_at (λ _. block_at) None c.args.count c.args.reader.now) c.loop-test.true c.in_ok-block.ensures c.loop.invariant)

pub returns : goal.returns
returns c =
    is_done (λ _. block_at) None c.loop.blocks.items c.args.count c.loop.counter c.loop.reader (items_at (λ _. block_at) None c.args.count c.args.reader.now) c.loop-test.false c.loop.invariant

use Rattle.std.proofs.lemmas.List.Elements.{All-more, All-get_or}
use Rattle.gno_codec.specs.declared.item.Block.{Block}
use Rattle.gno_codec.specs.Shelf.{block_bytes, HasLength, IsBlock}
use Rattle.gno_codec.proofs.Writes.{one_more_at}
use Rattle.gno_codec.proofs.shelf.put_each_block.Goals as goal

pub loop-block-preserved : goal.loop-block-preserved
loop-block-preserved c =
    let items = c.args.blocks.now in
    let i = c.loop-block.block-index in
    let lt = c.loop-block-test.true in
    let put = c.in_ok-put_block.ensures in
    let none : Block = record { at = 0; len = 0 } in (
      one_more_at block_bytes none _ _ _ items i lt c.loop-block.invariant.0 put.bytes,
      λ all. All-more IsBlock items i none lt (c.loop-block.invariant.1 all) (put.is (All-get_or HasLength items i none lt all)),
    )

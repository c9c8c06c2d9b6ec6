use Rattle.std.proofs.Common.{◌≡◌, ◌++◌, take, All}
use Rattle.std.specs.List.{flat_map}
use Rattle.gno_codec.specs.Shelf.{block_bytes, HasLength, IsBlock}
use Rattle.gno_codec.proofs.shelf.put_each_block.Given as goal

abbrev pub invariant-loop-block : goal.invariant-loop-block
invariant-loop-block l =
    (l.out.items ≡ l.initial.out.items ++ flat_map block_bytes (take l.block-index l.blocks))
    × (All HasLength l.blocks → All IsBlock (take l.block-index l.blocks))

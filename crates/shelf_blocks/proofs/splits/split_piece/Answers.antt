use Rattle.std.proofs.Common.{◌≡◌, length, ap, arith}
use Rattle.gno_codec.specs.Blocks.{split_bytes}
use Rattle.shelf_blocks.proofs.Filled.{filled, length-split}
use Rattle.shelf_blocks.proofs.splits.split_piece.Goals as goal

pub write_split-requires : goal.write_split-requires
write_split-requires c = filled c.args.granularity c.args.split.now c.requires.granularity c.requires.formed

pub returns-clause-fits : goal.returns-clause-fits
returns-clause-fits c =
    let split = c.args.split.now in
    let few = (filled c.args.granularity split c.requires.granularity c.requires.formed).few in
    let long : length c.in_ok-bytes.bytes.items ≡ length (split_bytes c.args.granularity split) = ap length c.in_ok-bytes.ensures.bytes in
    omega (arith, long, length-split c.args.granularity split, few)

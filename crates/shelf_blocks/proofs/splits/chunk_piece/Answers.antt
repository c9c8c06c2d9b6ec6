use Rattle.std.proofs.Common.{◌≡◌, length, ap, arith}
use Rattle.gno_codec.specs.Blocks.{raw_bytes}
use Rattle.shelf_blocks.proofs.Filled.{length-raw}
use Rattle.shelf_blocks.proofs.splits.chunk_piece.Goals as goal

pub returns-clause-fits : goal.returns-clause-fits
returns-clause-fits c =
    let few = c.requires.few in
    let long : length c.in_ok-bytes.bytes.items ≡ length (raw_bytes c.args.chunk.now) = ap length c.in_ok-bytes.ensures.bytes in
    omega (arith, long, length-raw c.args.chunk.now, few)

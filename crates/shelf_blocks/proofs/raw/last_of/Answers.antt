use Rattle.shelf_blocks.proofs.Chunks.{last_of_some}
use Rattle.shelf_blocks.proofs.raw.last_of.Goals as goal

pub returns-in-len1-up : goal.returns-in-len1-up
returns-in-len1-up c = last_of_some c.args.anchor.now c.args.points.now c.last-item.result c.in-len1-up.len_at_least c.last-item.is

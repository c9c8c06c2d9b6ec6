use Rattle.extent_map.proofs.RangeLemmas.{set_split}
use Rattle.extent_map.proofs.ranges.put.Goals as goal

pub returns-clause-items : goal.returns-clause-items
returns-clause-items c = set_split c.args.free.now.items c.args.i c.args.range c.requires

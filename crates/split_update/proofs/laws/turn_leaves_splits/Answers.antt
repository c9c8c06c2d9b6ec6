use Rattle.split_update.proofs.Leaving.{after_formed}
use Rattle.split_update.proofs.laws.turn_leaves_splits.Goals as goal

pub returns : goal.returns
returns c granularity oldest from points old positive are new = after_formed granularity oldest from points old positive are new

use Rattle.split_update.proofs.Scratch.{stored_formed}
use Rattle.split_update.proofs.laws.stored_are_splits.Goals as goal

pub returns : goal.returns
returns c kind d accepted positive = stored_formed kind d positive accepted

use Rattle.incoming.proofs.Held.{empty_held}
use Rattle.incoming.proofs.laws.empty_log.Goals as goal

pub returns : goal.returns
returns c = empty_held

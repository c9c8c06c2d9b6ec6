use Rattle.retention_cut.proofs.KeptLaws.{oldest-holds}
use Rattle.retention_cut.proofs.laws.oldest_split_holds.Goals as goal

pub returns : goal.returns
returns c = oldest-holds

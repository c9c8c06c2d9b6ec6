use Rattle.retention_cut.proofs.KeptLaws.{buckets-kept}
use Rattle.retention_cut.proofs.laws.as_many_buckets.Goals as goal

pub returns : goal.returns
returns c = buckets-kept

use Rattle.bound_series.proofs.Preparing.{empty_job}
use Rattle.bound_series.proofs.laws.empty_job.Goals as goal

pub returns : goal.returns
returns c = empty_job

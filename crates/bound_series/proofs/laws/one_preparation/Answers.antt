use Rattle.bound_series.proofs.Preparing.{one_preparation}
use Rattle.bound_series.proofs.laws.one_preparation.Goals as goal

pub returns : goal.returns
returns c = one_preparation

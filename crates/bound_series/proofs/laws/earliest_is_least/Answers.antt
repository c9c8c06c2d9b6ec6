use Rattle.bound_series.proofs.Earliest.{earliest_least}
use Rattle.bound_series.proofs.laws.earliest_is_least.Goals as goal

pub returns : goal.returns
returns c = earliest_least

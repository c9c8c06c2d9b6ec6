use Rattle.series_model.proofs.StoredLaws.{stored_exact, stored_one}
use Rattle.series_model.proofs.laws.splits_are_exact.Goals as goal

pub returns-clause-exact : goal.returns-clause-exact
returns-clause-exact c = stored_exact

pub returns-clause-one : goal.returns-clause-one
returns-clause-one c = stored_one

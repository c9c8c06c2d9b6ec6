use Rattle.measure_query.proofs.QueryLemmas.{one}
use Rattle.measure_query.proofs.laws.one_query.Goals as goal

pub returns : goal.returns
returns c = one

use Rattle.measure_query.proofs.QueryLemmas.{reordered}
use Rattle.measure_query.proofs.laws.any_order.Goals as goal

pub returns : goal.returns
returns c = reordered

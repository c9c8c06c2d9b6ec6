use Rattle.measure_query.proofs.QueryLemmas.{never}
use Rattle.measure_query.proofs.laws.never_both.Goals as goal

pub returns : goal.returns
returns c = never

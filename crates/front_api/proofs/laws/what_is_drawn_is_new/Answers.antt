use Rattle.front_api.proofs.CallLemmas.{draws_rise}
use Rattle.front_api.proofs.laws.what_is_drawn_is_new.Goals as goal

pub returns-clause-rise : goal.returns-clause-rise
returns-clause-rise c = draws_rise

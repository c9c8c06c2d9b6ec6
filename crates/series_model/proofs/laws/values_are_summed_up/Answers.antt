use Rattle.series_model.proofs.ValueLaws.{least_is, greatest_is, set_of}
use Rattle.series_model.proofs.laws.values_are_summed_up.Goals as goal

pub returns-clause-least : goal.returns-clause-least
returns-clause-least c = least_is

pub returns-clause-greatest : goal.returns-clause-greatest
returns-clause-greatest c = greatest_is

pub returns-clause-distinct : goal.returns-clause-distinct
returns-clause-distinct c = set_of

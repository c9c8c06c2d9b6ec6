use Rattle.bound_series.proofs.Preparing.{own_list}
use Rattle.bound_series.proofs.laws.points_are_in_order.Goals as goal

pub returns : goal.returns
returns c = own_list

use Rattle.front_api.proofs.SortedTables.{sorted_all, sorted_new}
use Rattle.front_api.proofs.laws.maps_are_sorted.Goals as goal

pub returns-clause-first : goal.returns-clause-first
returns-clause-first c = sorted_new

pub returns-clause-stay : goal.returns-clause-stay
returns-clause-stay c = sorted_all

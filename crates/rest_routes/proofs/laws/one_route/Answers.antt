use Rattle.rest_routes.proofs.RowLemmas.{one-route}
use Rattle.rest_routes.proofs.laws.one_route.Goals as goal

pub returns : goal.returns
returns c parts a b h k = one-route parts a b h k

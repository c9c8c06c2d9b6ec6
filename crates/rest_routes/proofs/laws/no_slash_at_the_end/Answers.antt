use Rattle.rest_routes.proofs.PathLaws.{none-trailing}
use Rattle.rest_routes.proofs.laws.no_slash_at_the_end.Goals as goal

pub returns : goal.returns
returns c path = none-trailing path

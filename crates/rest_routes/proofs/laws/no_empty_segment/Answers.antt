use Rattle.rest_routes.proofs.PathLaws.{none-doubled}
use Rattle.rest_routes.proofs.laws.no_empty_segment.Goals as goal

pub returns : goal.returns
returns c front rest = none-doubled front rest

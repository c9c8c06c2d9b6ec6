use Rattle.rest_routes.proofs.PathLaws.{only-rows}
use Rattle.rest_routes.proofs.laws.only_rows.Goals as goal

pub returns : goal.returns
returns c path raw e = only-rows path raw e

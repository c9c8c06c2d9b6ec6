use Rattle.rest_api.proofs.Accepted.{rows_stand}
use Rattle.rest_api.proofs.laws.rows_are_from_scratch.Goals as goal

pub returns : goal.returns
returns c = rows_stand

use Rattle.rest_api.proofs.Accepted.{accepted_stands}
use Rattle.rest_api.proofs.laws.accepted_batches_stand.Goals as goal

pub returns : goal.returns
returns c = accepted_stands

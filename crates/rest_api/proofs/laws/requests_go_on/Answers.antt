use Rattle.rest_api.proofs.GoingOn.{messages_go_on, request_goes_on}
use Rattle.rest_api.proofs.laws.requests_go_on.Goals as goal

pub returns : goal.returns
returns c = record { request = request_goes_on; messages = messages_go_on }

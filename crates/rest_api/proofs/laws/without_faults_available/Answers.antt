use Rattle.rest_api.proofs.Availing.{connection_avails, request_avails}
use Rattle.rest_api.proofs.Statuses.{other_than}
use Rattle.rest_api.proofs.laws.without_faults_available.Goals as goal

pub returns : goal.returns
returns c = record {
  request = λ method target body answer old new opened none h. other_than answer.status (request_avails method target body answer old new opened none h);
  connection = connection_avails;
}

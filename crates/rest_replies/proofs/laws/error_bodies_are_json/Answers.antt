use Rattle.rest_replies.proofs.JsonLemmas.{error-json}
use Rattle.rest_replies.proofs.laws.error_bodies_are_json.Goals as goal

pub returns : goal.returns
returns c = error-json

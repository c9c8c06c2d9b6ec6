use Rattle.rest_replies.proofs.HeadLemmas.{one-response}
use Rattle.rest_replies.proofs.laws.one_response.Goals as goal

pub returns : goal.returns
returns c = one-response

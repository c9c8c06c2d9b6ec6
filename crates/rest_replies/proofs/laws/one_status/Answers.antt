use Rattle.rest_replies.proofs.StatusLemmas.{one-status}
use Rattle.rest_replies.proofs.laws.one_status.Goals as goal

pub returns : goal.returns
returns c = one-status

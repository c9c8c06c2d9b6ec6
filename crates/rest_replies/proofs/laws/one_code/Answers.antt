use Rattle.rest_replies.proofs.CodeLemmas.{one-code}
use Rattle.rest_replies.proofs.laws.one_code.Goals as goal

pub returns : goal.returns
returns c = one-code

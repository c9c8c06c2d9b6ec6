use Rattle.rest_replies.proofs.HeadLemmas.{heads-lines}
use Rattle.rest_replies.proofs.laws.heads_are_lines.Goals as goal

pub returns : goal.returns
returns c = heads-lines

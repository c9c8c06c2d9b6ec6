use Rattle.rest_replies.proofs.ScriptLemmas.{one-reading}
use Rattle.rest_replies.proofs.laws.one_script_line.Goals as goal

pub returns : goal.returns
returns c = one-reading

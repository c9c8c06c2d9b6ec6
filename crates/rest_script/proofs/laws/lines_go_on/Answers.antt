use Rattle.rest_script.proofs.AcceptedLines.{lines_go_on}
use Rattle.rest_script.proofs.laws.lines_go_on.Goals as goal

pub returns : goal.returns
returns c = lines_go_on c.seen_histories_go_on.ensures.drain c.requests_go_on.ensures.request

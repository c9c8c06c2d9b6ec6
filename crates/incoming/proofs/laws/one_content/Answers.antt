use Rattle.incoming.proofs.Held.{one_held}
use Rattle.incoming.proofs.Logs.{one_log}
use Rattle.incoming.proofs.laws.one_content.Goals as goal

pub returns-clause-log : goal.returns-clause-log
returns-clause-log c = one_log

pub returns-clause-held : goal.returns-clause-held
returns-clause-held c = one_held

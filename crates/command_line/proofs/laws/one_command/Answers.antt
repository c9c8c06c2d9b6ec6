use Rattle.command_line.proofs.CommandLemmas.{one}
use Rattle.command_line.proofs.laws.one_command.Goals as goal

pub returns : goal.returns
returns c = one

use Rattle.command_line.proofs.CommandLemmas.{reordered}
use Rattle.command_line.proofs.laws.any_order.Goals as goal

pub returns : goal.returns
returns c = reordered

use Rattle.command_line.proofs.CommandLemmas.{respelled}
use Rattle.command_line.proofs.laws.both_spellings.Goals as goal

pub returns : goal.returns
returns c = respelled

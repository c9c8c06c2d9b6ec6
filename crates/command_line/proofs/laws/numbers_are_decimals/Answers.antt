use Rattle.command_line.proofs.NumberLemmas.{decimals}
use Rattle.command_line.proofs.laws.numbers_are_decimals.Goals as goal

pub returns : goal.returns
returns c = decimals

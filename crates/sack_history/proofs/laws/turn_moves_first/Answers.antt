use Rattle.sack_history.proofs.Turning.{moves_first}
use Rattle.sack_history.proofs.laws.turn_moves_first.Goals as goal

pub returns : goal.returns
returns c m upto counts legal may = moves_first m upto counts legal may

use Rattle.sack_history.proofs.Draining.{refreshes}
use Rattle.sack_history.proofs.laws.refresh_leaves_none.Goals as goal

pub returns : goal.returns
returns c = record {
  legal = λ m counts legal. (refreshes m counts legal).legal;
  none = λ m counts legal. (refreshes m counts legal).nothing;
  number = λ m counts legal. (refreshes m counts legal).number;
}

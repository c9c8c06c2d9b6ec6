use Rattle.sack_history.proofs.Draining.{drains}
use Rattle.sack_history.proofs.laws.drain_leaves_none.Goals as goal

pub returns : goal.returns
returns c = record {
  legal = λ counts legal. (drains counts legal).legal;
  none = λ counts legal. (drains counts legal).nothing;
  number = λ counts legal. (drains counts legal).number;
}

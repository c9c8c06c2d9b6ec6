use Rattle.sack_history.proofs.Posting.{batches-posted, pending-posted}
use Rattle.sack_history.proofs.laws.post_waits.Goals as goal

pub returns : goal.returns
returns c = record {
  pending = λ m number measures counts legal may. pending-posted m number measures counts legal may;
  batches = λ m number measures counts legal may. batches-posted m number measures counts legal may;
}

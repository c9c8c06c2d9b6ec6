use Rattle.sack_history.proofs.Ticketing.{ticket_count, tickets_numbered}
use Rattle.sack_history.proofs.laws.tickets_are_numbered.Goals as goal

pub returns : goal.returns
returns c = record {
  number = λ sack h k t legal there. tickets_numbered sack h k t legal there;
  next = λ sack h legal. ticket_count sack h legal;
}

use Rattle.front_api.proofs.Entering.{own_entries}
use Rattle.front_api.proofs.seen_laws.own_entries_come_last.Goals as goal

pub returns : goal.returns
returns c = record {
  sack = λ others own old new adds. own_entries others own old new adds;
  index = λ others own old new adds. own_entries others own old new adds;
}

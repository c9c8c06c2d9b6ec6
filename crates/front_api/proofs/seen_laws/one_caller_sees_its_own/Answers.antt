use Rattle.front_api.proofs.Entering.{sees_alone}
use Rattle.front_api.proofs.seen_laws.one_caller_sees_its_own.Goals as goal

pub returns : goal.returns
returns c = record {
  sack = λ others own old new alone adds. sees_alone others own old new alone adds;
  index = λ others own old new alone adds. sees_alone others own old new alone adds;
}

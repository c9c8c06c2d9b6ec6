use Rattle.sack_history.proofs.Committed.{committed}
use Rattle.sack_history.proofs.laws.commit_is_from_scratch.Goals as goal

pub returns : goal.returns
returns c id done p before is_policy is_prepared base = committed c.turn_is_from_scratch.ensures id done p before is_policy is_prepared base

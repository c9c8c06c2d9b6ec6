use Rattle.sack_history.proofs.Committed.{turn_committed}
use Rattle.sack_history.proofs.laws.claimed_commit_is_from_scratch.Goals as goal

pub returns : goal.returns
returns c counts claim p legal may job is_prepared = turn_committed c.turn_is_from_scratch.ensures counts claim p legal may job is_prepared

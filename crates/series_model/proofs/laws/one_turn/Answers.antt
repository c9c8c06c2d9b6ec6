use Rattle.series_model.proofs.TurnLaws.{turn_processed, turn_pending}
use Rattle.series_model.proofs.laws.one_turn.Goals as goal

pub returns : goal.returns
returns c = record { processed = turn_processed; waiting = turn_pending }

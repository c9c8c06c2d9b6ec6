use Rattle.series_model.proofs.TurnLaws.{turns_processed, turns_pending}
use Rattle.series_model.proofs.laws.all_turns.Goals as goal

pub returns : goal.returns
returns c = record { processed = turns_processed; waiting = turns_pending }

use Rattle.series_model.proofs.TurnCuts.{turn_of}
use Rattle.series_model.proofs.laws.turns.Goals as goal

pub returns-clause-cut : goal.returns-clause-cut
returns-clause-cut c = turn_of

use Rattle.series_model.proofs.AnswerLaws.{rows_exact}
use Rattle.series_model.proofs.laws.rows_are_exact.Goals as goal

pub returns : goal.returns
returns c = rows_exact

use Rattle.series_model.proofs.AnswerLaws.{answer_one}
use Rattle.series_model.proofs.laws.one_answer.Goals as goal

pub returns : goal.returns
returns c = answer_one

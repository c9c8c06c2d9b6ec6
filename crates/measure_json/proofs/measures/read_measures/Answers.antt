use Rattle.std.proofs.Common.{subst}
use Rattle.measure_json.specs.Fault.{Answers}
use Rattle.measure_json.proofs.AnswerLemmas.{measures_found, measures_only}
use Rattle.measure_json.proofs.measures.read_measures.Goals as goal

pub returns-clause-found : goal.returns-clause-found
returns-clause-found c = measures_found c.args.body.now c.measures_answer.result c.measures_answer.ensures.exact

pub returns-clause-only : goal.returns-clause-only
returns-clause-only c = λ ms h. subst (λ meaning. Answers (λ batch. batch) c.measures_answer.result meaning) (measures_only c.args.body.now ms h) c.measures_answer.ensures.exact

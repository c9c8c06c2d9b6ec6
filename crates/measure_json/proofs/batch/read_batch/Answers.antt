use Rattle.std.proofs.Common.{subst}
use Rattle.measure_json.specs.Fault.{Answers}
use Rattle.measure_json.proofs.BatchLemmas.{batch_found, batch_only}
use Rattle.measure_json.proofs.batch.read_batch.Goals as goal

pub returns-clause-found : goal.returns-clause-found
returns-clause-found c = batch_found c.args.body.now c.batch_answer.result c.batch_answer.ensures.exact

pub returns-clause-only : goal.returns-clause-only
returns-clause-only c = λ entries h. subst (λ meaning. Answers (λ found. found.items) c.batch_answer.result meaning) (batch_only c.args.body.now entries h) c.batch_answer.ensures.exact

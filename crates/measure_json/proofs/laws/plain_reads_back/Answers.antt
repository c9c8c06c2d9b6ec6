use Rattle.measure_json.specs.Plain.{measures_json}
use Rattle.measure_json.proofs.AnswerLemmas.{measures_only}
use Rattle.measure_json.proofs.PlainLemmas.{plain_measures}
use Rattle.measure_json.proofs.laws.plain_reads_back.Goals as goal

pub returns : goal.returns
returns c = λ ms h few. measures_only (measures_json ms) ms (plain_measures ms h few)

use Rattle.std.proofs.Common.{sym, ◌∙◌}
use Rattle.measure_json.proofs.StepLemmas.{ok_is}
use Rattle.measure_json.proofs.BatchLemmas.{batch_reads}
use Rattle.measure_json.proofs.laws.one_batch_reading.Goals as goal

pub returns : goal.returns
returns c = λ body xs ys h k. ok_is xs ys (sym (batch_reads body xs h) ∙ batch_reads body ys k)

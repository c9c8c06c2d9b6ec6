use Rattle.std.proofs.Common.{sym, ◌∙◌}
use Rattle.measure_json.proofs.StepLemmas.{ok_is}
use Rattle.measure_json.proofs.CompleteLemmas.{measures_reads}
use Rattle.measure_json.proofs.laws.one_reading.Goals as goal

pub returns : goal.returns
returns c = λ body ms ns h k. ok_is ms ns (sym (measures_reads body ms h) ∙ measures_reads body ns k)

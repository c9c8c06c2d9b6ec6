use Rattle.measure_json.specs.declared.measures.Key.TheVariants as keys
use Rattle.measure_json.proofs.CompleteLemmas.{key_reads}
use Rattle.measure_json.proofs.short.short_key.Goals as goal

pub returns-in-Some : goal.returns-in-Some
returns-in-Some c = key_reads c.args.text.now keys.Timestamp c.in-Some.rest.now c.in-Some.ensures

pub returns-in-Some-behind_value_key : goal.returns-in-Some-behind_value_key
returns-in-Some-behind_value_key c =
    key_reads c.args.text.now keys.Value c.in-Some-behind_value_key.rest.now c.in-Some-behind_value_key.ensures

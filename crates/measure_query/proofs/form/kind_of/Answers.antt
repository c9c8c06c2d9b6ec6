use Rattle.measure_query.proofs.FormLemmas.{kind_found}
use Rattle.measure_query.proofs.form.kind_of.Goals as goal

pub returns : goal.returns
returns c = kind_found c.args.name.now c.of_name.result c.of_name.ensures

use Rattle.std.proofs.Common.{refl}
use Rattle.uuid.specs.Text.{parsed}
use Rattle.measure_json.proofs.IdLemmas.{no_id}
use Rattle.measure_json.proofs.batch.id_of.Goals as goal

pub returns-in-Err : goal.returns-in-Err
returns-in-Err c = rw (no_id (parsed c.args.text.now) (λ found. c.in-Err.ensures.ok.1 found)) refl

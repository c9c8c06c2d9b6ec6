use Rattle.std.proofs.Common.{refl}
use Rattle.uuid.specs.Text.{parsed}
use Rattle.rest_routes.proofs.ParameterLemmas.{no-reading}
use Rattle.rest_routes.proofs.parameter.as_id.Goals as goal

pub returns-in-Err : goal.returns-in-Err
returns-in-Err c = rw (no-reading (parsed c.args.text.now) (λ found. c.in-Err.ensures.ok.1 found)) refl

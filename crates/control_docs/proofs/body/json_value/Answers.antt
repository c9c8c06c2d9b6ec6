use Rattle.std.proofs.Common.{◌≡◌, ap, true}
use Rattle.control_docs.specs.Fault.{found_or}
use Rattle.control_docs.specs.declared.fault.ControlBodyFault.TheVariants.{BadBody}
use Rattle.control_docs.proofs.BodyLemmas.{value_there, value_missing}
use Rattle.control_docs.proofs.body.json_value.Goals as goal

pub returns-in-Ok : goal.returns-in-Ok
returns-in-Ok c = ap (found_or BadBody) (value_there c.args.body.now _ c.in-Ok.ensures.ok.0 c.in-Ok.ensures.ok.1)

pub returns-else-is_memory : goal.returns-else-is_memory
returns-else-is_memory c ne = ap (found_or BadBody) (value_missing c.args.body.now (c.in-Err.ensures.err (λ lack. let told : c.is_memory.result ≡ true = c.is_memory.ensures.1 lack in absurd cc)))

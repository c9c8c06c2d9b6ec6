use Rattle.gate_log.proofs.Exact.{IsDamaged-one}
use Rattle.gate_log.proofs.laws.damage_has_one_place.Goals as goal

pub returns : goal.returns
returns c = λ a b first second. IsDamaged-one c.args.bytes.now a b c.requires first second

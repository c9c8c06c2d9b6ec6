use Rattle.gate_log.proofs.LogLemmas.{view_durable}
use Rattle.gate_log.proofs.log.Log.is_broken.Goals as goal

pub returns-clause-durable : goal.returns-clause-durable
returns-clause-durable g c = λ sound.
    view_durable g.D.Disk c.self.inside c.args.self.now c.self.view_is c.self.invariant (g.met.D.Disk.whole c.self.inside.disk) sound

use Rattle.std.proofs.Common.{subst, ap}
use Rattle.gno_disk.specs.Disk.{SameImages}
use Rattle.gate_log.specs.LogView.{LogView}
use Rattle.gate_log.proofs.log.Log.fuse.Goals as goal

pub returns-clause-past : goal.returns-clause-past
returns-clause-past g c = λ since.
    subst (λ (d : _). SameImages (g.D.Disk.left_since d since) (g.D.Disk.left_since c.fuse.new.self since)) (ap (λ (v : LogView _). v.disk) c.self.view_is) (c.fuse.ensures.past since)

pub returns-clause-listed : goal.returns-clause-listed
returns-clause-listed g c =
    subst (λ (d : _). g.D.Fusible.listed c.fuse.new.self → g.D.Fusible.listed d) (ap (λ (v : LogView _). v.disk) c.self.view_is) c.fuse.ensures.listed

use Rattle.front.proofs.Ready.{not_damaged}
use Rattle.front.proofs.laws.stores_are_not_damaged.Goals as goal

pub returns : goal.returns
returns g c = not_damaged g.D.Disk

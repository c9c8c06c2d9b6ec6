use Rattle.shelf_blocks.proofs.Held.{metrics_stay}
use Rattle.shelf_blocks.proofs.laws.spared_metrics_are_held.Goals as goal

pub returns : goal.returns
returns c = λ places old new spares metrics lives apart holds. metrics_stay places old new spares metrics lives apart holds

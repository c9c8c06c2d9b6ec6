use Rattle.shelf_records.proofs.Moving.{moved}
use Rattle.shelf_records.proofs.laws.change_moves_one_split.Goals as goal

pub returns : goal.returns
returns c key other block splits = moved key other block splits

use Rattle.shelf_blocks.proofs.Written.{raw_written}
use Rattle.shelf_blocks.proofs.laws.written_series_is_held.Goals as goal

pub returns : goal.returns
returns c = λ disk raw places pieces cut fills series. raw_written disk raw places pieces cut fills series

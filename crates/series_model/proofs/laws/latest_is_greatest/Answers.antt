use Rattle.series_model.proofs.Latest.{latest_greatest}
use Rattle.series_model.proofs.laws.latest_is_greatest.Goals as goal

pub returns : goal.returns
returns c = latest_greatest

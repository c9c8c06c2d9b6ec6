use Rattle.series_model.proofs.SeriesLaws.{series_exact}
use Rattle.series_model.proofs.laws.series_is_exact.Goals as goal

pub returns : goal.returns
returns c = series_exact

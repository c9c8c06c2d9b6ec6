use Rattle.series_model.proofs.SeriesLaws.{series_one}
use Rattle.series_model.proofs.laws.one_series.Goals as goal

pub returns : goal.returns
returns c = series_one

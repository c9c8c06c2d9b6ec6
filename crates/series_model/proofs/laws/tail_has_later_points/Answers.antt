use Rattle.series_model.specs.Series.{series_of_measures}
use Rattle.series_model.proofs.SeriesLaws.{Rises-series}
use Rattle.series_model.proofs.TailLaws.{points_tail}
use Rattle.series_model.proofs.laws.tail_has_later_points.Goals as goal

pub returns : goal.returns
returns c kind g cut from accepted le = points_tail kind g cut from (series_of_measures accepted) le (Rises-series accepted)

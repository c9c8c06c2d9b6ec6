use Rattle.series_model.specs.Points.{IsPoint}
use Rattle.series_model.specs.Series.{series_of_measures}
use Rattle.series_model.proofs.PointLaws.{points_exact, points_one}
use Rattle.series_model.proofs.SeriesLaws.{Rises-series}
use Rattle.series_model.proofs.laws.points_are_exact.Goals as goal

pub returns-clause-exact : goal.returns-clause-exact
returns-clause-exact c kind g measures = points_exact kind g (series_of_measures measures) (Rises-series measures)

pub returns-clause-one : goal.returns-clause-one
returns-clause-one c kind g series xs ys h k = points_one (IsPoint kind g series) xs ys h k

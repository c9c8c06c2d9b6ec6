use Rattle.series_model.specs.Series.{series_of_measures}
use Rattle.series_model.proofs.SeriesLaws.{Rises-series}
use Rattle.series_model.proofs.ValueLaws.{changes_found, changes_kept}
use Rattle.series_model.proofs.laws.changes_are_exact.Goals as goal

pub returns : goal.returns
returns c measures change =
    let series = series_of_measures measures in
    (changes_found series change (Rises-series measures), changes_kept series change (Rises-series measures))

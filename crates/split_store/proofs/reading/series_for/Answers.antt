use Rattle.std.proofs.Common.{sym, ◌∙◌}
use Rattle.shelf_records.proofs.Places.{same_at, splits_nowhere, splits_position}
use Rattle.split_store.proofs.SplitFound.{none_matched, within_policy}
use Rattle.split_store.proofs.reading.series_for.Goals as goal

pub returns-in_err-place-clause-series : goal.returns-in_err-place-clause-series
returns-in_err-place-clause-series c =
    let kept = c.args.filed.now.kept in
    none_matched _ c.from_residual.result c.from_residual.ensures (splits_nowhere c.args.definition c.args.kind kept (sym c.place_of.ensures.first ∙ c.in_err-place.was {u = tt}))

pub returns-clause-series : goal.returns-clause-series
returns-clause-series c =
    let m = c.args.filed.now in
    let place = c.in_ok-place.place in
    let found = sym c.place_of.ensures.first ∙ c.in_ok-place.was {u = tt} in
    let here = splits_position c.args.definition c.args.kind m.kept place found in
    (same_at m.kept place c.series.result.now _ c.series.ensures here, within_policy m.policy c.args.definition c.args.kind place (sym c.place_of.ensures.place ∙ c.in_ok-place.was {u = tt}))

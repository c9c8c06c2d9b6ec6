use Rattle.std.proofs.Common.{arith}
use Rattle.series_model.proofs.Rising.{Rises_from_rising, times}
use Rattle.bound_series.proofs.Places.{place_splits}
use Rattle.bound_series.proofs.raw.place_of.Goals as goal

pub returns-clause-before : goal.returns-clause-before
returns-clause-before c =
    let series = c.args.series.now in
    (place_splits c.args.from series c.end_before.result (Rises_from_rising (times series) c.requires) c.end_before.ensures.inside (λ k d less. c.end_before.ensures.before k d (omega arith) less) (λ less d. c.end_before.ensures.next d less)).0

pub returns-clause-behind : goal.returns-clause-behind
returns-clause-behind c =
    let series = c.args.series.now in
    (place_splits c.args.from series c.end_before.result (Rises_from_rising (times series) c.requires) c.end_before.ensures.inside (λ k d less. c.end_before.ensures.before k d (omega arith) less) (λ less d. c.end_before.ensures.next d less)).1

use Rattle.std.proofs.Common.{◌≡◌, ◌-◌, suc, Some, take, sym, ap, ◌∙◌, arith}
use Rattle.series_model.specs.Tail.{last_onto}
use Rattle.bound_series.proofs.Places.{last_taken}
use Rattle.bound_series.proofs.raw.anchor_at.Goals as goal

pub returns : goal.returns
returns c =
    let points = c.args.points.now in
    let place = c.args.place in
    let next : suc (place - 1) ≡ place = omega arith in
    sym (ap (λ n. last_onto c.args.anchor.now (take n points)) (sym next) ∙ last_taken c.args.anchor.now points (place - 1) c.index-points-place.result (omega arith) ∙ ap Some (sym c.index-points-place.is))

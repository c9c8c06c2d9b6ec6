use Rattle.std.proofs.Common.{◌≡◌, ◌-◌, suc, Some, take, sym, ap, ◌∙◌, arith}
use Rattle.series_model.specs.Tail.{last_onto}
use Rattle.bound_series.proofs.Places.{last_taken}
use Rattle.regroup.proofs.tallies.previous_of.Goals as goal

pub returns : goal.returns
returns c =
    let members = c.args.members.now in
    let place = c.args.place in
    let next : suc (place - 1) ≡ place = omega arith in
    sym (ap (λ n. last_onto c.args.before (take n members)) (sym next) ∙ last_taken c.args.before members (place - 1) c.index-members-place.result (omega arith) ∙ ap Some (sym c.index-members-place.is))

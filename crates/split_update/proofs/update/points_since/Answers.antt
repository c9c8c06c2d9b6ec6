use Rattle.std.proofs.Common.{sym, ap, ◌∙◌}
use Rattle.series_model.proofs.PointLaws.{at_of}
use Rattle.series_model.specs.Points.{points_from}
use Rattle.split_update.specs.Update.{points_since}
use Rattle.split_update.proofs.Halves.{halves}
use Rattle.split_update.proofs.update.points_since.Goals as goal

pub returns-in-Some : goal.returns-in-Some
returns-in-Some c =
    let n = c.count_before.result in
    c.rest_of.ensures
    ∙ sym (halves at_of c.nanos.result n c.args.points.now c.count_before.ensures.before c.count_before.ensures.behind).1
    ∙ ap (λ key. points_from key c.args.points.now) c.nanos.ensures.value
    ∙ ap (λ oldest. points_since oldest c.args.points.now) (sym c.in-Some.is)

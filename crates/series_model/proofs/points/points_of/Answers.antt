use Rattle.std.proofs.Common.{◌≡◌, ◌++◌, sym, ap, ◌∙◌, append-nil, arith}
use Rattle.std.specs.Option.{option_to_list}
use Rattle.series_model.specs.Points.{point_at}
use Rattle.series_model.proofs.Loops.{filter_map-step}
use Rattle.series_model.proofs.points.points_of.Goals.{in-Some+in_ok-push, in_default}
use Rattle.series_model.proofs.points.points_of.Goals as goal

pub loop-start-preserved : goal.loop-start-preserved
loop-start-preserved c =
    let a = c.args in
    let before = c.loop-start.points.items in
    let added : c.match-point.points.items ≡ before ++ option_to_list c.in_ok-point.point =
    elim c.match-point.branch [
      | in-Some+in_ok-push w ↦ ap (λ v. v.items) w.points-is ∙ w.in_ok-push.ensures.items ∙ ap (λ p. before ++ option_to_list p) (sym w.in-Some.is)
      | in_default w ↦ ap (λ v. v.items) w.points-is ∙ sym (append-nil before) ∙ ap (λ p. before ++ option_to_list p) (sym w.in_default.is)
    ] in
    filter_map-step (point_at a.kind a.granularity a.series.now) c.as_slice-start-items.result.now c.loop-start.start-index c.start-item.result before c.match-point.points.items c.in_ok-point.point (omega arith) c.start-item.is c.loop-start.invariant c.in_ok-point.ensures added

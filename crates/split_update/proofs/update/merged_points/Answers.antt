use Rattle.std.proofs.Common.{◌≡◌, ◌++◌, take, sym, ap, ◌∙◌, rules}
use Rattle.series_model.proofs.PointLaws.{at_of}
use Rattle.split_update.specs.Update.{points_before}
use Rattle.split_update.proofs.Halves.{halves}
use Rattle.split_update.proofs.update.merged_points.Goals as goal

pub returns : goal.returns
returns c =
    let n = c.count_before.result in
    let touched = c.args.touched.now in
    let points = c.args.points.now in
    let all : c.extend_from_slice-2.new.self.items ≡ take n touched ++ points = search rules in
    all ∙ ap (λ l. l ++ points) (sym (halves at_of c.nanos.result n touched c.count_before.ensures.before c.count_before.ensures.behind).0)
    ∙ ap (λ until. points_before until touched ++ points) c.nanos.ensures.value

use Rattle.std.proofs.Common.{◌≡◌, None, ◌∙◌, ap}
use Rattle.std.proofs.lemmas.Result.{IfOk-weaker}
use Rattle.gno_num.specs.Floor.{floor_of}
use Rattle.series_model.specs.Points.{starts_of, points_from, points_of}
use Rattle.series_model.specs.Series.{series_of_measures}
use Rattle.series_model.specs.Tail.{Tail, last_onto, members_before, members_from, members_of}
use Rattle.series_model.proofs.PointLaws.{floor-multiple}
use Rattle.series_model.proofs.Rising.{Rises, Rises_from_rising, times}
use Rattle.series_model.proofs.SeriesLaws.{Rises-series}
use Rattle.series_model.proofs.TailLaws.{tail_members, points_tail}
use Rattle.regroup.specs.Tallies.{tallies_behind}
use Rattle.regroup.proofs.Later.{late_points}
use Rattle.regroup.proofs.touched.changed.Goals as goal

pub returns-clause-points : goal.returns-clause-points
returns-clause-points c =
    let kind = c.args.kind in
    let g = c.args.definition.now.granularity in
    let f = floor_of c.args.from g in
    let all = members_of c.args.raw.now in
    let first : c.floor-first.result ≡ f = c.floor-first.ensures in
    let rising : Rises (times all) = Rises_from_rising (times all) c.in_ok-tallies.ensures.rising in
    let tallies : c.as_slice.result.now ≡ tallies_behind g (last_onto None (members_before f all)) (members_from f all) =
    c.as_slice.ensures.value ∙ c.in_ok-tallies.ensures.tallies
    ∙ ap (λ n. tallies_behind g (last_onto None (members_before n all)) (members_from n all)) first in
    IfOk-weaker c.points_by.result _ _ (λ points e. e g (tail_members f all) (starts_of g (times (members_from f all))) tallies
    ∙ late_points kind g f all (floor-multiple c.args.from g) rising) c.points_by.ensures

pub returns-clause-from_scratch : goal.returns-clause-from_scratch
returns-clause-from_scratch c =
    let kind = c.args.kind in
    let g = c.args.definition.now.granularity in
    let f = floor_of c.args.from g in
    IfOk-weaker c.points_by.result _ _ (λ points is cut accepted le was. is
    ∙ ap (λ (t : Tail). points_from f (points_of kind g (members_of t))) was
    ∙ points_tail kind g cut f (series_of_measures accepted) le (Rises-series accepted)) (returns-clause-points c)

use Rattle.std.proofs.Common.{◌∙◌, [], None, refl, ap, sym, subst}
use Rattle.std.proofs.lemmas.Result.{IfOk-weaker}
use Rattle.gno_num.specs.Floor.{floor_of}
use Rattle.series_model.specs.Points.{starts_of}
use Rattle.series_model.specs.Tail.{last_onto, members_before, members_from, members_of}
use Rattle.series_model.proofs.PointLaws.{floor-multiple}
use Rattle.series_model.proofs.Rising.{Rises_from_rising, times}
use Rattle.series_model.proofs.TailLaws.{tail_members}
use Rattle.regroup.specs.Tallies.{tallies_behind}
use Rattle.regroup.specs.Work.{Gives}
use Rattle.regroup.proofs.Later.{late_points}
use Rattle.regroup.proofs.work.tallies_since.Goals as goal

pub returns-in-None : goal.returns-in-None
returns-in-None c =
    let g = c.args.granularity in
    let all = members_of c.args.raw.now in
    subst (λ o. Gives g all o c.new.result.items) (sym c.in-None.is) (record {
      among = [];
      starts = [];
      tallied = c.new.ensures.items;
      points = λ kind. refl;
    })

pub returns-in-Some : goal.returns-in-Some
returns-in-Some c =
    let g = c.args.granularity in
    let f = floor_of c.in-Some.from g in
    let all = members_of c.args.raw.now in
    IfOk-weaker c.tallies_from.result _ _
    (λ tallies is. subst (λ o. Gives g all o tallies.items) (sym c.in-Some.is) (record {
      among = tail_members f all;
      starts = starts_of g (times (members_from f all));
      tallied = is ∙ ap (λ n. tallies_behind g (last_onto None (members_before n all)) (members_from n all)) c.floor.ensures;
      points = λ kind. late_points kind g f all (floor-multiple c.in-Some.from g) (Rises_from_rising (times all) c.tallies_from.ensures.rising);
    }))
    c.tallies_from.ensures.tallies

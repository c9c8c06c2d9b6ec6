use Rattle.std.proofs.Common.{◌≡◌, ◌<◌, ◌≤◌, ℕ, Option, Some, take, drop, ap, sym, subst, ◌∙◌}
use Rattle.std.specs.List.{All, filter}
use Rattle.series_model.specs.declared.point.Point.{Point}
use Rattle.measure_query.specs.Wanted.{is_between}
use Rattle.measure_query.proofs.WantedLemmas.{between_all, between_until, front_rising, whole_rest}
use Rattle.measure_query.proofs.wanted.points_between.Goals.{in-Some, in-None}
use Rattle.measure_query.proofs.wanted.points_between.Goals as goal

pub count_before-requires : goal.count_before-requires
count_before-requires c = front_rising c.match-query.until c.args.points.now c.requires

pub returns : goal.returns
returns c =
    let points = c.args.points.now in
    let first = c.args.first in
    let i = c.match-query.until in
    let j = c.count_before.result in
    let early = c.count_before.ensures.before in
    let late = c.count_before.ensures.behind in
    let P : Option ℕ → Type 0 = λ stop. drop j (take i points) ≡ filter (is_between first stop) points in
    whole_rest j (take i points) ∙ elim c.match-query.branch [
      | in-Some w ↦
          let stop = w.nanos.result in
          let until : All (λ (p : Point). p.at < stop) (take i points) = rw w.until-is w.count_before-until.ensures.before in
          let after : All (λ (p : Point). stop ≤ p.at) (drop i points) = rw w.until-is w.count_before-until.ensures.behind in
          subst P (ap Some w.nanos.ensures.value ∙ sym w.in-Some.is) (between_until first stop points i j until after early late)
      | in-None w ↦ subst P (sym w.in-None.is) (between_all first points i j w.until-is early late)
    ]

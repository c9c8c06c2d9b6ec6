use Rattle.std.proofs.Common.{◌≡◌, ℕ, ◌<◌, ◌++◌, Option, get_or, length, map, sym, ap, ◌∙◌, arith, append-nil}
use Rattle.std.specs.Option.{option_map, option_to_list}
use Rattle.std.proofs.Math.ListN.{get_or-map}
use Rattle.std.proofs.lemmas.List.{get_or_default, length-map}
use Rattle.gno_num.specs.Fraction.{Fraction}
use Rattle.series_model.specs.declared.point.Point.{Point}
use Rattle.series_model.specs.Bucket.{value_at}
use Rattle.series_model.specs.Points.{point_at}
use Rattle.series_model.proofs.Loops.{filter_map-step}
use Rattle.regroup.specs.declared.tallies.BucketTally.{BucketTally}
use Rattle.regroup.specs.Tallies.{bucket_tally}
use Rattle.regroup.proofs.tallies.points_by.Goals.{in-Some+in_ok-push, in_default}
use Rattle.regroup.proofs.tallies.points_by.Goals as goal

pub loop-tally-preserved : goal.loop-tally-preserved
loop-tally-preserved c g members starts are =
    let kind = c.args.kind in
    let tallies = c.args.tallies.now in
    let i = c.loop-tally.tally-index in
    let tally = c.tally-item.result in
    let f : ℕ → BucketTally = bucket_tally g members in
    let s = get_or starts i 0 in
    let below : i < length starts = omega (arith, c.loop-tally-test.true, ap length are, length-map starts f) in
    let below_all : i < length (map f starts) = omega (arith, below, length-map starts f) in
    let own : tally ≡ f s =
    c.tally-item.is ∙ ap (λ l. get_or l i tally) are ∙ get_or_default (map f starts) i tally (f 0) below_all ∙ get_or-map f starts i 0 in
    let value : c.value_by-value.result ≡ value_at kind g members s = c.value_by-value.ensures g members s own in
    let point : ℕ → Fraction → Point = λ at v. record { at = at; value = v } in
    let o : Option Point = option_map (point tally.start) c.value_by-value.result in
    let found : o ≡ point_at kind g members s =
    ap (option_map (point tally.start)) value ∙ ap (λ (t : BucketTally). option_map (point t.start) (value_at kind g members s)) own in
    let before = c.loop-tally.points.items in
    let added : c.match-value.points.items ≡ before ++ option_to_list o =
    elim c.match-value.branch [
      | in-Some+in_ok-push w ↦ ap (λ v. v.items) w.points-is ∙ w.in_ok-push.ensures.items ∙ ap (λ v. before ++ option_to_list (option_map (point tally.start) v)) (sym w.in-Some.is)
      | in_default w ↦ ap (λ v. v.items) w.points-is ∙ sym (append-nil before) ∙ ap (λ v. before ++ option_to_list (option_map (point tally.start) v)) (sym w.in_default.is)
    ] in
    filter_map-step (point_at kind g members) starts i s before c.match-value.points.items o below (get_or_default starts i 0 s below) (c.loop-tally.invariant g members starts are) found added

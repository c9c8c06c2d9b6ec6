use Rattle.std.proofs.Common.{◌≡◌, ◌-◌, ◌<◌, ◌≤◌, ◌++◌, None, take, drop, length, get_or, take_all, Some, ◌+◌, sym, ap, subst, ◌∙◌, arith}
use Rattle.std.specs.List.{slice_get}
use Rattle.std.specs.List.Sorted.{IsStrictlyIncreasing}
use Rattle.std.specs.Option.{option_to_list}
use Rattle.std.proofs.lemmas.List.{length-drop, get_or-drop}
use Rattle.std.proofs.lemmas.Option.{get_or_from_slice_get, slice_get_within}
use Rattle.std.proofs.lemmas.Result.{IfOk-weaker}
use Rattle.series_model.specs.declared.measure.Measure.{Measure}
use Rattle.series_model.specs.Tail.{last_onto, members_before, members_from, members_of}
use Rattle.series_model.proofs.PointLaws.{floor-mono}
use Rattle.series_model.proofs.Rising.{Rises, Rises_from_rising, rising_from_Rises, times}
use Rattle.series_model.proofs.TailLaws.{anchored, Rises-tail}
use Rattle.bound_series.proofs.Places.{place_splits}
use Rattle.bound_series.proofs.Scratch.{points_rise}
use Rattle.regroup.specs.Tallies.{tallies_behind}
use Rattle.regroup.proofs.Later.{late_all, early_before, early_from, early_last, own_floor}
use Rattle.regroup.proofs.RunSteps.{last-behind}
use Rattle.regroup.proofs.touched.tallies_from.Goals as goal

pub returns-then-is_late-clause-tallies : goal.returns-then-is_late-clause-tallies
returns-then-is_late-clause-tallies c =
    let f = c.args.first in
    let g = c.args.granularity in
    let o = c.anchor-anchor.result in
    let points = c.points-points.result.now in
    let raw = c.args.raw.now in
    let own : anchored o points ≡ members_of raw =
    ap (λ x. option_to_list x ++ points) c.anchor-anchor.ensures ∙ ap (λ l. option_to_list raw.anchor ++ l) c.points-points.ensures.value in
    let rising : Rises (times (anchored o points)) =
    subst (λ l. Rises (times l)) (sym own) (Rises_from_rising (times (members_of raw)) c.points-points.ensures.rising) in
    let late = late_all f o points rising (c.is_late.ensures.late c.if-is_late.true) in
    let members : c.as_slice.result.now ≡ anchored o points = c.as_slice.ensures.value ∙ c.in_ok-members.ensures in
    IfOk-weaker c.tallies_behind.result _ _ (λ tallies is. is ∙ ap (tallies_behind g None) members
    ∙ sym (ap (λ l. tallies_behind g (last_onto None l) (members_from f (anchored o points))) late.0 ∙ ap (tallies_behind g None) late.1)
    ∙ ap (λ l. tallies_behind g (last_onto None (members_before f l)) (members_from f l)) own) c.tallies_behind.ensures

pub tallies_behind-requires-2-clause-rising : goal.tallies_behind-requires-2-clause-rising
tallies_behind-requires-2-clause-rising c =
    let f = c.args.first in
    let g = c.args.granularity in
    let o = c.anchor-anchor.result in
    let points = c.points-points.result.now in
    let raw = c.args.raw.now in
    let own : anchored o points ≡ members_of raw =
    ap (λ x. option_to_list x ++ points) c.anchor-anchor.ensures ∙ ap (λ l. option_to_list raw.anchor ++ l) c.points-points.ensures.value in
    let rising : Rises (times (anchored o points)) =
    subst (λ l. Rises (times l)) (sym own) (Rises_from_rising (times (members_of raw)) c.points-points.ensures.rising) in
    let place = c.run_end-place.result in
    let early = c.is_late.ensures.early c.if-is_late.false in
    let splits = place_splits f points place (points_rise o points rising) c.run_end-place.ensures.inside (λ k d less. omega (arith, c.run_end-place.ensures.before k d (omega arith) less, c.nanos.ensures.value)) (λ less d. omega (arith, c.run_end-place.ensures.next d less, c.nanos.ensures.value)) in
    let rest : take (length points - place) (drop place points) ≡ drop place points =
    take_all (length points - place) (drop place points) (omega (arith, length-drop place points)) in
    let before : c.previous_of-before.result ≡ last_onto None (members_before f (anchored o points)) =
    c.previous_of-before.ensures ∙ sym (ap (last_onto None) (early_before f o points (take place points) early splits.0) ∙ last-behind o (take place points)) in
    let late : take (length points - place) (drop place points) ≡ members_from f (anchored o points) =
    rest ∙ sym (early_from f o points (drop place points) early splits.1) in
    let left = anchored (last_onto None (members_before f (anchored o points))) (members_from f (anchored o points)) in
    subst (λ x. IsStrictlyIncreasing (times (anchored x (take (length points - place) (drop place points))))) (sym before)
    (subst (λ l. IsStrictlyIncreasing (times (anchored (last_onto None (members_before f (anchored o points))) l))) (sym late) (rising_from_Rises (times left) (Rises-tail f (anchored o points) rising)))

pub tallies_behind-requires-2-clause-apart : goal.tallies_behind-requires-2-clause-apart
tallies_behind-requires-2-clause-apart c b m positive was got =
    let f = c.args.first in
    let g = c.args.granularity in
    let o = c.anchor-anchor.result in
    let points = c.points-points.result.now in
    let raw = c.args.raw.now in
    let own : anchored o points ≡ members_of raw =
    ap (λ x. option_to_list x ++ points) c.anchor-anchor.ensures ∙ ap (λ l. option_to_list raw.anchor ++ l) c.points-points.ensures.value in
    let rising : Rises (times (anchored o points)) =
    subst (λ l. Rises (times l)) (sym own) (Rises_from_rising (times (members_of raw)) c.points-points.ensures.rising) in
    let place = c.run_end-place.result in
    let early = c.is_late.ensures.early c.if-is_late.false in
    let splits = place_splits f points place (points_rise o points rising) c.run_end-place.ensures.inside (λ k d less. omega (arith, c.run_end-place.ensures.before k d (omega arith) less, c.nanos.ensures.value)) (λ less d. omega (arith, c.run_end-place.ensures.next d less, c.nanos.ensures.value)) in
    let rest : take (length points - place) (drop place points) ≡ drop place points =
    take_all (length points - place) (drop place points) (omega (arith, length-drop place points)) in
    let below : b.at < f = early_last f o points (take place points) b early splits.0 (sym c.previous_of-before.ensures ∙ was) in
    let there : slice_get (drop place points) 0 ≡ Some m = ap (λ l. slice_get l 0) (sym rest) ∙ got in
    let inside : 0 < length (drop place points) = slice_get_within (drop place points) 0 m there in
    let at : (get_or points place m).at ≡ m.at =
    ap (λ n. (get_or points n m).at) (let n : place ≡ place + 0 = omega arith in n) ∙ ap (λ (x : Measure). x.at) (sym (get_or-drop place points 0 m) ∙ get_or_from_slice_get (drop place points) 0 m m there) in
    let up : f ≤ m.at = omega (arith, c.run_end-place.ensures.next m (omega (arith, inside, length-drop place points)), at, c.nanos.ensures.value) in
    omega (arith, below, own_floor f g positive c.requires, floor-mono f m.at g up)

pub returns-clause-tallies : goal.returns-clause-tallies
returns-clause-tallies c =
    let f = c.args.first in
    let g = c.args.granularity in
    let o = c.anchor-anchor.result in
    let points = c.points-points.result.now in
    let raw = c.args.raw.now in
    let own : anchored o points ≡ members_of raw =
    ap (λ x. option_to_list x ++ points) c.anchor-anchor.ensures ∙ ap (λ l. option_to_list raw.anchor ++ l) c.points-points.ensures.value in
    let rising : Rises (times (anchored o points)) =
    subst (λ l. Rises (times l)) (sym own) (Rises_from_rising (times (members_of raw)) c.points-points.ensures.rising) in
    let place = c.run_end-place.result in
    let early = c.is_late.ensures.early c.if-is_late.false in
    let splits = place_splits f points place (points_rise o points rising) c.run_end-place.ensures.inside (λ k d less. omega (arith, c.run_end-place.ensures.before k d (omega arith) less, c.nanos.ensures.value)) (λ less d. omega (arith, c.run_end-place.ensures.next d less, c.nanos.ensures.value)) in
    let rest : take (length points - place) (drop place points) ≡ drop place points =
    take_all (length points - place) (drop place points) (omega (arith, length-drop place points)) in
    let before : c.previous_of-before.result ≡ last_onto None (members_before f (anchored o points)) =
    c.previous_of-before.ensures ∙ sym (ap (last_onto None) (early_before f o points (take place points) early splits.0) ∙ last-behind o (take place points)) in
    let late : take (length points - place) (drop place points) ≡ members_from f (anchored o points) =
    rest ∙ sym (early_from f o points (drop place points) early splits.1) in
    IfOk-weaker c.tallies_behind-2.result _ _ (λ tallies is. is
    ∙ ap (λ x. tallies_behind g x (take (length points - place) (drop place points))) before
    ∙ ap (tallies_behind g (last_onto None (members_before f (anchored o points)))) late
    ∙ ap (λ l. tallies_behind g (last_onto None (members_before f l)) (members_from f l)) own) c.tallies_behind-2.ensures

use Rattle.std.proofs.Common.{◌≡◌, ℕ, ◌+◌, ◌<◌, ◌≤◌, List, ◌∷◌, [], ◌++◌, map, length, take, drop, get_or, sym, ap, subst, ◌∙◌, append_assoc, length-drop, rules, arith}
use Rattle.std.specs.List.{All}
use Rattle.std.specs.List.Sorted.{IsStrictlyIncreasing}
use Rattle.gno_num.specs.Floor.{floor_of}
use Rattle.series_model.specs.declared.point.Point.{Point}
use Rattle.series_model.specs.declared.point.Split.{Split}
use Rattle.series_model.specs.Stored.{split_span, splits_of}
use Rattle.series_model.proofs.PointLaws.{at_of}
use Rattle.series_model.proofs.Rising.{rising_from_Rises, Rises_from_rising}
use Rattle.split_update.proofs.Cutting.{Rises-drop, cut_step}
use Rattle.split_update.proofs.cut.cut_splits.Goals as goal

pub count_before-count-requires : goal.count_before-count-requires
count_before-count-requires c =
    subst (λ l. IsStrictlyIncreasing (map at_of l)) (sym c.rest_of-rest.ensures)
    (rising_from_Rises (map at_of (drop c.loop-place.place c.args.points.now)) (Rises-drop c.loop-place.place c.args.points.now (Rises_from_rising (map at_of c.args.points.now) c.requires.rising)))

-- the next split, and what is left behind it
next : (g place count : ℕ) (p : Point) (points rest : List Point) → 0 < split_span g → place < length points → p ≡ get_or points place p → IsStrictlyIncreasing (map at_of points) → rest ≡ drop place points
    → All (λ q. q.at < floor_of p.at (split_span g) + split_span g) (take count rest) → All (λ q. floor_of p.at (split_span g) + split_span g ≤ q.at) (drop count rest)
    → (0 < count) × (splits_of g (drop place points) ≡ (record { key = floor_of p.at (split_span g); points = take count (drop place points) }) ∷ splits_of g (drop (place + count) points))
next g place count p points rest wide below is rising rest_is before behind =
    let end = floor_of p.at (split_span g) + split_span g in
    cut_step g place count p points wide below is (Rises_from_rising (map at_of points) rising)
    (subst (λ l. All (λ (q : Point). q.at < end) (take count l)) rest_is before)
    (subst (λ l. All (λ (q : Point). end ≤ q.at) (drop count l)) rest_is behind)

pub loop-place-smaller : goal.loop-place-smaller
loop-place-smaller c =
    let g = c.args.granularity in
    let place = c.loop-place.place in
    let count = c.count_before-count.result in
    let points = c.args.points.now in
    let p = c.index-points-place.result in
    let end = floor_of p.at (split_span g) + split_span g in
    let below : place < length points = search rules in
    let is : p ≡ get_or points place p = search rules in
    let before : All (λ (q : Point). q.at < end) (take count c.rest_of-rest.result.now) = search rules in
    let behind : All (λ (q : Point). end ≤ q.at) (drop count c.rest_of-rest.result.now) = search rules in
    let step = next g place count p points c.rest_of-rest.result.now (omega (arith, c.requires.granularity.shortest)) below is c.requires.rising c.rest_of-rest.ensures before behind in
    let some = step.0 in
    omega (arith, some, below)

pub loop-place-preserved : goal.loop-place-preserved
loop-place-preserved c =
    let g = c.args.granularity in
    let place = c.loop-place.place in
    let count = c.count_before-count.result in
    let points = c.args.points.now in
    let p = c.index-points-place.result in
    let end = floor_of p.at (split_span g) + split_span g in
    let below : place < length points = search rules in
    let is : p ≡ get_or points place p = search rules in
    let before : All (λ (q : Point). q.at < end) (take count c.rest_of-rest.result.now) = search rules in
    let behind : All (λ (q : Point). end ≤ q.at) (drop count c.rest_of-rest.result.now) = search rules in
    let step = next g place count p points c.rest_of-rest.result.now (omega (arith, c.requires.granularity.shortest)) below is c.requires.rising c.rest_of-rest.ensures before behind in
    let so_far = c.loop-place.invariant.so_far in
    let few : count ≤ length (drop place points) = subst (λ l. count ≤ length l) c.rest_of-rest.ensures c.count_before-count.ensures.within in
    let made : Split = record { key = floor_of c.index-points-place.result.at (split_span g); points = take count (drop place points) } in
    let pushed : c.push.new.self.items ≡ c.loop-place.splits.items ++ made ∷ [] = search rules in
    record {
      within = omega (arith, few, length-drop place points, c.loop-place.invariant.within);
      so_far =
          ap (λ l. l ++ splits_of g (drop (place + count) points)) pushed
          ∙ append_assoc c.loop-place.splits.items (made ∷ []) (splits_of g (drop (place + count) points))
          ∙ ap (λ l. c.loop-place.splits.items ++ l) (sym step.1)
          ∙ so_far;
    }

-- One split more, cut off the front of the points that are left.
use Rattle.std.proofs.Common.{◌≡◌, ℕ, zero, suc, ◌+◌, ◌<◌, ◌≤◌, List, ◌∷◌, map, length, take, drop, get_or, sym, ap, subst, ◌∙◌, take-append-drop, arith}
use Rattle.std.specs.List.{All}
use Rattle.std.specs.List.Sorted.{IsStrictlyIncreasing, IsNonDecreasingBy}
use Rattle.std.proofs.Math.Logic.{⊎_elim}
use Rattle.std.proofs.lemmas.Bool.{cases_eq}
use Rattle.std.proofs.lemmas.List.{drop_more, drop-drop, get_or-map, length-map}
use Rattle.std.proofs.lemmas.List.Elements.{All-head}
use Rattle.std.proofs.lemmas.List.Kept.{AllPairs-from_increasing}
use Rattle.gno_num.specs.Floor.{floor_of}
use Rattle.series_model.specs.declared.point.Point.{Point}
use Rattle.series_model.specs.Stored.{split_span, splits_of}
use Rattle.series_model.proofs.PointLaws.{at_of, floor-le, floor-above, floor-multiple}
use Rattle.series_model.proofs.Rising.{Rises}
use Rattle.split_update.proofs.Runs.{Each-all, Rises-back, Rises-front, splits_of_run, within_key}

-- what is left behind a place rises too
pub Rises-drop : (n : ℕ) (points : List Point) → Rises (map at_of points) → Rises (map at_of (drop n points))
Rises-drop n points rises = Rises-back (take n points) (drop n points) (subst (λ l. Rises (map at_of l)) (sym (take-append-drop n points)) rises)

-- the points from the first on that are before the end of its split are one split
front_split : (g count : ℕ) (p : Point) (points : List Point) → 0 < split_span g → Rises (map at_of (p ∷ points))
    → All (λ q. q.at < floor_of p.at (split_span g) + split_span g) (take count (p ∷ points)) → All (λ q. floor_of p.at (split_span g) + split_span g ≤ q.at) (drop count (p ∷ points))
    → (0 < count) × (splits_of g (p ∷ points) ≡ (record { key = floor_of p.at (split_span g); points = take count (p ∷ points) }) ∷ splits_of g (drop count (p ∷ points)))
front_split g zero p points wide rises before behind =
    let n = split_span g in
    let late = All-head (λ (q : Point). floor_of p.at n + n ≤ q.at) p points behind in
    absurd (omega (arith, late, floor-above p.at n wide))
front_split g (suc c) p points wide rises before behind =
    let n = split_span g in
    let key = floor_of p.at n in
    let run : Rises (map at_of (p ∷ take c points)) = Rises-front (p ∷ take c points) (drop c points) (subst (λ l. Rises (map at_of (p ∷ l))) (sym (take-append-drop c points)) rises) in
    let early = Each-all (λ t. t < key + n) (p ∷ take c points) before in
    let late = Each-all (λ t. key + n ≤ t) (drop c points) behind in
    let low = floor-le p.at n in (
      omega arith,
      ap (λ l. splits_of g (p ∷ l)) (sym (take-append-drop c points))
          ∙ splits_of_run g key wide (floor-multiple p.at n) p (take c points) (drop c points) ((low, early.0), within_key key p.at n (take c points) low run.0 early.1) late,
    )

pub cut_step : (g place count : ℕ) (p : Point) (points : List Point) → 0 < split_span g → place < length points → p ≡ get_or points place p → Rises (map at_of points)
    → All (λ q. q.at < floor_of p.at (split_span g) + split_span g) (take count (drop place points)) → All (λ q. floor_of p.at (split_span g) + split_span g ≤ q.at) (drop count (drop place points))
    → (0 < count) × (splits_of g (drop place points) ≡ (record { key = floor_of p.at (split_span g); points = take count (drop place points) }) ∷ splits_of g (drop (place + count) points))
cut_step g place count p points wide below is rises before behind =
    let n = split_span g in
    let key = floor_of p.at n in
    let rest = drop place points in
    let more : rest ≡ p ∷ drop (place + 1) points = drop_more points place p below ∙ ap (λ q. q ∷ drop (place + 1) points) (sym is) in
    let step = front_split g count p (drop (place + 1) points) wide (subst (λ l. Rises (map at_of l)) more (Rises-drop place points rises))
    (subst (λ l. All (λ (q : Point). q.at < key + n) (take count l)) more before) (subst (λ l. All (λ (q : Point). key + n ≤ q.at) (drop count l)) more behind) in (
      step.0,
      ap (splits_of g) more ∙ step.1
          ∙ ap (λ l. (record { key = key; points = take count l }) ∷ splits_of g (drop count l)) (sym more)
          ∙ ap (λ l. (record { key = key; points = take count rest }) ∷ splits_of g l) (drop-drop count place points),
    )

-- a list that rises strictly never falls
pub never_falling : (points : List Point) → IsStrictlyIncreasing (map at_of points) → IsNonDecreasingBy (λ (p : Point). p.at) points
never_falling points h i j d le below =
    ⊎_elim
    (λ same. let at : (get_or points i d).at ≡ (get_or points j d).at = ap (λ k. (get_or points k d).at) same in omega (arith, at))
    (λ apart. let long = length-map points (λ (p : Point). p.at) in
    omega (
      arith,
      AllPairs-from_increasing (map at_of points) h i j 0 (omega (arith, apart)) (omega (arith, long)),
      get_or-map (λ (p : Point). p.at) points i d 0 (omega arith),
      get_or-map (λ (p : Point). p.at) points j d 0 below,
    ))
    (cases_eq i j)

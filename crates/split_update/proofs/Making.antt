-- The splits that a turn makes.
use Rattle.std.proofs.Common.{◌≡◌, ℕ, ◌%◌, ◌<◌, ◌≤◌, leb, ltb, List, [], ◌∷◌, ◌++◌, map, Option, Some, None, refl, sym, subst, arith}
use Rattle.std.specs.List.{All}
use Rattle.std.specs.Option.{IfSome}
use Rattle.std.proofs.Math.Logic.{⊎_elim}
use Rattle.std.proofs.lemmas.Bool.{cases_lt, lt-ltb, le-ltb}
use Rattle.std.proofs.lemmas.List.Elements.{All-cons, All-nil, All-head, All-tail}
use Rattle.series_model.specs.declared.point.Point.{Point}
use Rattle.series_model.specs.declared.point.Split.{Split}
use Rattle.series_model.specs.Stored.{split_span, splits_of}
use Rattle.series_model.proofs.ByKey.{filter-keep, filter-skip, Rises-filter}
use Rattle.series_model.proofs.PointLaws.{at_of}
use Rattle.series_model.proofs.Rising.{Above, Rises}
use Rattle.split_update.specs.Update.{IsInStretch, points_before, points_since, splits_from}
use Rattle.split_update.proofs.Runs.{Each, Runs, none, more, splits_of_run}
use Rattle.split_update.proofs.RunLaws.{Each-filter, cut_before, multiple_gap}

-- points before a time in front of points from it on
pub Rises-joined : (f : ℕ) (xs ys : List Point) → Each (λ t. t < f) xs → Each (λ t. f ≤ t) ys → Rises (map at_of xs) → Rises (map at_of ys) → Rises (map at_of (xs ++ ys))
Rises-joined f [] ys early late h k = k
Rises-joined f (x ∷ xs) ys early late h k = (above x.at xs ys early.0 h.0 late, Rises-joined f xs ys early.1 late h.1 k)
  where
    behind : (at : ℕ) (ys : List Point) → at < f → Each (λ t. f ≤ t) ys → Above at (map at_of ys)
    behind at [] lt late = tt
    behind at (y ∷ ys) lt late = (omega (arith, lt, late.0), behind at ys lt late.1)

    above : (at : ℕ) (xs ys : List Point) → at < f → Above at (map at_of xs) → Each (λ t. f ≤ t) ys → Above at (map at_of (xs ++ ys))
    above at [] ys lt h late = behind at ys lt late
    above at (x ∷ xs) ys lt h late = (h.0, above at xs ys lt h.1 late)

pub each_early : (f : ℕ) (points : List Point) → Each (λ t. t < f) (points_before f points)
each_early f [] = tt
each_early f (p ∷ points) =
    ⊎_elim
    (λ early. subst (Each (λ t. t < f)) (sym (filter-keep (λ (q : Point). ltb q.at f) p points (lt-ltb p.at f early))) (early, each_early f points))
    (λ late. subst (Each (λ t. t < f)) (sym (filter-skip (λ (q : Point). ltb q.at f) p points (le-ltb p.at f late))) (each_early f points))
    (cases_lt p.at f)

pub Rises-since : (oldest : Option ℕ) (points : List Point) → Rises (map at_of points) → Rises (map at_of (points_since oldest points))
Rises-since None points rises = rises
Rises-since (Some k) points rises = Rises-filter at_of (λ (p : Point). leb k p.at) points rises

pub Each-since : (P : ℕ → Type 0) (oldest : Option ℕ) (points : List Point) → Each P points → Each P (points_since oldest points)
Each-since P None points each = each
Each-since P (Some k) points each = Each-filter P (λ (p : Point). leb k p.at) points each

-- the splits from the oldest key on are those of the points from it on
pub since_cut : (g : ℕ) (oldest : Option ℕ) (points : List Point) → 0 < split_span g → IfSome oldest (λ k. k % split_span g ≡ 0) → Runs g points → splits_from oldest (splits_of g points) ≡ splits_of g (points_since oldest points)
since_cut g None points wide whole runs = refl
since_cut g (Some k) points wide whole runs = cut_before g wide k points whole runs

-- the splits of points from a key on have later keys
pub late_keys : (g k : ℕ) (points : List Point) → 0 < split_span g → k % split_span g ≡ 0 → Runs g points → Each (λ t. k ≤ t) points → All (λ s. k ≤ s.key) (splits_of g points)
late_keys g k _ wide whole none late = All-nil (λ (s : Split). k ≤ s.key)
late_keys g k _ wide whole (more key p run rest multiple each behind rises others) late =
    let made : Split = record { key = key; points = p ∷ run } in
    let first : k ≤ key =
    ⊎_elim
    (λ early. let gap = multiple_gap key k (split_span g) wide multiple whole early in absurd (omega (arith, gap, each.0.1, late.0)))
    (λ is. is)
    (cases_lt key k) in
    subst (All (λ (s : Split). k ≤ s.key)) (sym (splits_of_run g key wide multiple p run rest each behind))
    (All-cons (λ (s : Split). k ≤ s.key) made (splits_of g rest) first (late_keys g k rest wide whole others (Each-rest (p ∷ run) rest late)))
  where
    Each-rest : (xs ys : List Point) → Each (λ t. k ≤ t) (xs ++ ys) → Each (λ t. k ≤ t) ys
    Each-rest [] ys each = each
    Each-rest (x ∷ xs) ys each = Each-rest xs ys each.1

-- the points of a stretch are at multiples, from its key on
pub each_multiple : (g key : ℕ) (points : List Point) → All (IsInStretch g key) points → Each (λ t. t % g ≡ 0) points
each_multiple g key [] all = tt
each_multiple g key (p ∷ points) all = ((All-head (IsInStretch g key) p points all).multiple, each_multiple g key points (All-tail (IsInStretch g key) p points all))

pub each_inside : (g key : ℕ) (points : List Point) → All (IsInStretch g key) points → Each (λ t. key ≤ t) points
each_inside g key [] all = tt
each_inside g key (p ∷ points) all = ((All-head (IsInStretch g key) p points all).from, each_inside g key points (All-tail (IsInStretch g key) p points all))

-- Points that rise, those between two times, and the rows of splits one after the other.
use Rattle.std.proofs.Common.{◌≡◌, ℕ, suc, ◌+◌, ◌-◌, ◌<◌, ◌≤◌, leb, ltb, Bool, true, false, cond, ◌&&◌, List, [], ◌∷◌, ◌++◌, map, take, drop, length, get_or, Option, Some, None, refl, sym, ap, subst, ◌∙◌, arith, append_assoc, append-nil, drop-cons, take_all, take-append-drop}
use Rattle.std.proofs.Math.Bool.{and-false, and_assoc}
use Rattle.std.proofs.Math.Logic.{⊎_elim}
use Rattle.std.proofs.Math.Seq.{take-append_seam}
use Rattle.std.specs.List.{All, filter}
use Rattle.std.specs.List.Sorted.{IsNonDecreasingBy}
use Rattle.std.proofs.lemmas.Bool.{le-leb, lt-ltb, le-ltb, lt-leb, cases_eq}
use Rattle.std.proofs.lemmas.List.{map-append, get_or-map, length-drop, length-map, take_more}
use Rattle.std.proofs.lemmas.List.Elements.{All-drop, All-head, All-tail, All-weaker, filter-append, filter_agree}
use Rattle.std.proofs.lemmas.List.Kept.{AllPairs-from_increasing}
use Rattle.std.proofs.lemmas.Grind.{flat_map-append}
use Rattle.series_model.specs.declared.answer.Row.{Row}
use Rattle.series_model.specs.declared.point.Point.{Point}
use Rattle.series_model.specs.declared.point.Split.{Split}
use Rattle.series_model.specs.declared.query.Query.{Query}
use Rattle.series_model.specs.Answer.{row_of}
use Rattle.series_model.specs.Query.{is_from, is_until, is_wanted, rows_wanted}
use Rattle.series_model.proofs.Rising.{Above, Rises, Rises_from_rising, rising_from_Rises}
use Rattle.measure_query.specs.Wanted.{AddsFront, AreRising, is_between, points_in}

-- ---- points that rise

above_left : (at : ℕ) (xs ys : List ℕ) → Above at (xs ++ ys) → Above at xs
above_left at [] ys h = tt
above_left at (x ∷ xs) ys h = (h.0, above_left at xs ys h.1)

rises_left : (xs ys : List ℕ) → Rises (xs ++ ys) → Rises xs
rises_left [] ys h = tt
rises_left (x ∷ xs) ys h = (above_left x xs ys h.0, rises_left xs ys h.1)

rises_right : (xs ys : List ℕ) → Rises (xs ++ ys) → Rises ys
rises_right [] ys h = h
rises_right (x ∷ xs) ys h = rises_right xs ys h.1

abbrev times : List Point → List ℕ
times points = map (λ (p : Point). p.at) points

-- each part of points that rise has points that rise
pub left_rising : (xs ys : List Point) → AreRising (xs ++ ys) → AreRising xs
left_rising xs ys h =
    rising_from_Rises (times xs) (rises_left (times xs) (times ys) (subst Rises (map-append (λ (p : Point). p.at) xs ys) (Rises_from_rising (times (xs ++ ys)) h)))

pub right_rising : (xs ys : List Point) → AreRising (xs ++ ys) → AreRising ys
right_rising xs ys h =
    rising_from_Rises (times ys) (rises_right (times xs) (times ys) (subst Rises (map-append (λ (p : Point). p.at) xs ys) (Rises_from_rising (times (xs ++ ys)) h)))

pub front_rising : (n : ℕ) (points : List Point) → AreRising points → AreRising (take n points)
front_rising n points h =
    left_rising (take n points) (drop n points) (subst AreRising (sym (take-append-drop n points)) h)

-- they don't fall
pub never_falling : (points : List Point) → AreRising points → IsNonDecreasingBy (λ (p : Point). p.at) points
never_falling points h i j d le below =
    ⊎_elim
    (λ same. let at : (get_or points i d).at ≡ (get_or points j d).at = ap (λ k. (get_or points k d).at) same in omega (arith, at))
    (λ apart. let long = length-map points (λ (p : Point). p.at) in
    omega (
      arith,
      AllPairs-from_increasing (times points) h i j 0 (omega (arith, apart)) (omega (arith, long)),
      get_or-map (λ (p : Point). p.at) points i d 0 (omega arith),
      get_or-map (λ (p : Point). p.at) points j d 0 below,
    ))
    (cases_eq i j)

-- ---- those between two times

filter_all : {X : Type 0} (p : X → Bool) (xs : List X) → All (λ x. p x ≡ true) xs → filter p xs ≡ xs
filter_all p [] all = refl
filter_all p (x ∷ xs) all =
    ap (λ b. cond b (x ∷ filter p xs) (filter p xs)) (All-head (λ x. p x ≡ true) x xs all)
    ∙ ap (λ ys. x ∷ ys) (filter_all p xs (All-tail (λ x. p x ≡ true) x xs all))

filter_none : {X : Type 0} (p : X → Bool) (xs : List X) → All (λ x. p x ≡ false) xs → filter p xs ≡ []
filter_none p [] none = refl
filter_none p (x ∷ xs) none =
    ap (λ b. cond b (x ∷ filter p xs) (filter p xs)) (All-head (λ x. p x ≡ false) x xs none)
    ∙ filter_none p xs (All-tail (λ x. p x ≡ false) x xs none)

-- the points of the front that aren't early are those between the two times
pub between : (first : ℕ) (stop : Option ℕ) (points : List Point) (i j : ℕ) → All (λ (p : Point). is_until stop p.at ≡ true) (take i points) → All (λ (p : Point). is_until stop p.at ≡ false) (drop i points) → All (λ (p : Point). p.at < first) (take j (take i points)) → All (λ (p : Point). first ≤ p.at) (drop j (take i points)) → drop j (take i points) ≡ filter (is_between first stop) points
between first stop points i j until after early late =
    let q = is_between first stop in
    let front = take i points in
    let is_early : All (λ p. q p ≡ false) (take j front) =
    All-weaker (λ (p : Point). p.at < first) (λ p. q p ≡ false) (λ p less. ap (λ b. b && is_until stop p.at) (lt-leb first p.at less)) (take j front) early in
    let is_after : All (λ p. q p ≡ false) (drop i points) =
    All-weaker (λ (p : Point). is_until stop p.at ≡ false) (λ p. q p ≡ false) (λ p not. ap (λ b. leb first p.at && b) not ∙ and-false (leb first p.at)) (drop i points) after in
    let before = All-drop (λ (p : Point). is_until stop p.at ≡ true) j front until in
    let is_there : All (λ p. q p ≡ true) (drop j front) =
    λ k d below. ap (λ b. b && is_until stop (get_or (drop j front) k d).at) (le-leb first (get_or (drop j front) k d).at (late k d below)) ∙ before k d below in
    sym (
    ap (filter q) (sym (take-append-drop i points))
    ∙ filter-append q front (drop i points)
    ∙ ap (λ ps. filter q front ++ ps) (filter_none q (drop i points) is_after)
    ∙ append-nil (filter q front)
    ∙ ap (filter q) (sym (take-append-drop j front))
    ∙ filter-append q (take j front) (drop j front)
    ∙ ap (λ ps. ps ++ filter q (drop j front)) (filter_none q (take j front) is_early)
    ∙ filter_all q (drop j front) is_there
    )

-- with a stop, by the times before it
pub between_until : (first stop : ℕ) (points : List Point) (i j : ℕ) → All (λ (p : Point). p.at < stop) (take i points) → All (λ (p : Point). stop ≤ p.at) (drop i points) → All (λ (p : Point). p.at < first) (take j (take i points)) → All (λ (p : Point). first ≤ p.at) (drop j (take i points)) → drop j (take i points) ≡ filter (is_between first (Some stop)) points
between_until first stop points i j until after early late =
    between first (Some stop) points i j
    (All-weaker (λ (p : Point). p.at < stop) (λ p. ltb p.at stop ≡ true) (λ p less. lt-ltb p.at stop less) (take i points) until)
    (All-weaker (λ (p : Point). stop ≤ p.at) (λ p. ltb p.at stop ≡ false) (λ p le. le-ltb p.at stop le) (drop i points) after)
    early late

-- without a stop
pub between_all : (first : ℕ) (points : List Point) (i j : ℕ) → i ≡ length points → All (λ (p : Point). p.at < first) (take j (take i points)) → All (λ (p : Point). first ≤ p.at) (drop j (take i points)) → drop j (take i points) ≡ filter (is_between first None) points
between_all first points i j all early late =
    between first None points i j (λ k d below. refl) (λ k d below. absurd (omega (arith, below, length-drop i points))) early late

-- what is left of a list behind some of it
pub whole_rest : {X : Type 0} (j : ℕ) (xs : List X) → take (length xs - j) (drop j xs) ≡ drop j xs
whole_rest j xs = take_all (length xs - j) (drop j xs) (omega (arith, length-drop j xs))

-- ---- rows of splits

pub rows-append : (query : Query) (granularity oldest : ℕ) (xs ys : List Point) → rows_wanted query granularity oldest (xs ++ ys) ≡ rows_wanted query granularity oldest xs ++ rows_wanted query granularity oldest ys
rows-append query granularity oldest xs ys =
    let q = is_wanted query granularity oldest in
    ap (map (row_of granularity)) (filter-append q xs ys) ∙ map-append (row_of granularity) (filter q xs) (filter q ys)

-- the points between the first time that is wanted and the stop are those that are wanted
pub wanted_between : (query : Query) (granularity oldest first : ℕ) (own points wanted : List Point) → ((at : ℕ) → leb first at ≡ (leb oldest at && is_from query.start granularity at)) → points ≡ own → wanted ≡ filter (is_between first query.stop) points → map (row_of granularity) wanted ≡ rows_wanted query granularity oldest own
wanted_between query granularity oldest first own points wanted is same found =
    ap (map (row_of granularity)) (
    found
    ∙ ap (filter (is_between first query.stop)) same
    ∙ filter_agree (is_between first query.stop) (is_wanted query granularity oldest) (λ p. ap (λ b. b && is_until query.stop p.at) (is p.at) ∙ and_assoc (leb oldest p.at) (is_from query.start granularity p.at) (is_until query.stop p.at)) own
    )

points_in-append : (xs ys : List Split) → points_in (xs ++ ys) ≡ points_in xs ++ points_in ys
points_in-append xs ys = flat_map-append (λ (split : Split). split.points) xs ys

-- the points so far, those of one more split, and those of the others
pub parts : (splits : List Split) (i : ℕ) (split : Split) → i < length splits → split ≡ get_or splits i split → points_in splits ≡ points_in (take i splits) ++ (split.points ++ points_in (drop (suc i) splits))
parts splits i split below is =
    ap points_in (sym (take-append-drop i splits))
    ∙ points_in-append (take i splits) (drop i splits)
    ∙ ap (λ ss. points_in (take i splits) ++ points_in ss) (drop-cons splits i split below)
    ∙ ap (λ s. points_in (take i splits) ++ points_in (s ∷ drop (suc i) splits)) (sym is)

pub split_rising : (splits : List Split) (i : ℕ) (split : Split) → i < length splits → split ≡ get_or splits i split → AreRising (points_in splits) → AreRising split.points
split_rising splits i split below is rising =
    let rest = points_in (drop (suc i) splits) in
    left_rising split.points rest (right_rising (points_in (take i splits)) (split.points ++ rest) (subst AreRising (parts splits i split below is) rising))

-- one more split
pub rows-more : (query : Query) (granularity oldest : ℕ) (splits : List Split) (i : ℕ) (split : Split) → i < length splits → split ≡ get_or splits i split → rows_wanted query granularity oldest (points_in (take (i + 1) splits)) ≡ rows_wanted query granularity oldest (points_in (take i splits)) ++ rows_wanted query granularity oldest split.points
rows-more query granularity oldest splits i split below is =
    let rows = rows_wanted query granularity oldest in
    ap (λ ss. rows (points_in ss)) (take_more splits i split below)
    ∙ ap (λ s. rows (points_in (take i splits ++ s ∷ []))) (sym is)
    ∙ ap rows (points_in-append (take i splits) (split ∷ []))
    ∙ ap (λ ps. rows (points_in (take i splits) ++ ps)) (append-nil split.points)
    ∙ rows-append query granularity oldest (points_in (take i splits)) split.points

-- some of the rows of one more split
pub rows_front : (query : Query) (granularity oldest : ℕ) (splits : List Split) (i : ℕ) (split : Split) (old so_far new : List Row) → i < length splits → split ≡ get_or splits i split → so_far ≡ old ++ rows_wanted query granularity oldest (points_in (take i splits)) → AddsFront (rows_wanted query granularity oldest split.points) so_far new → AddsFront (rows_wanted query granularity oldest (points_in splits)) old new
rows_front query granularity oldest splits i split old so_far new below is was (n, added) =
    let rows = rows_wanted query granularity oldest in
    let front = rows (points_in (take i splits)) in
    let some = take n (rows split.points) in
    let others = drop n (rows split.points) ++ rows (points_in (drop (suc i) splits)) in
    let whole : rows (points_in splits) ≡ (front ++ some) ++ others =
    ap rows (parts splits i split below is)
    ∙ rows-append query granularity oldest (points_in (take i splits)) (split.points ++ points_in (drop (suc i) splits))
    ∙ ap (λ rs. front ++ rs) (rows-append query granularity oldest split.points (points_in (drop (suc i) splits)))
    ∙ ap (λ rs. front ++ (rs ++ rows (points_in (drop (suc i) splits)))) (sym (take-append-drop n (rows split.points)))
    ∙ ap (λ rs. front ++ rs) (append_assoc some (drop n (rows split.points)) (rows (points_in (drop (suc i) splits))))
    ∙ sym (append_assoc front some others) in
    (length (front ++ some), added ∙ ap (λ rs. rs ++ some) was ∙ append_assoc old front some ∙ ap (λ rs. old ++ rs) (sym (take-append_seam (front ++ some) others)) ∙ ap (λ rs. old ++ take (length (front ++ some)) rs) (sym whole))

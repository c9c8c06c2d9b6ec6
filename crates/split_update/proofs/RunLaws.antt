-- What splits hold of the points that they were cut from, and what they are of.
use Rattle.std.proofs.Common.{◌≡◌, ℕ, ◌+◌, ◌%◌, ◌<◌, ◌≤◌, Bool, true, false, leb, ltb, List, [], ◌∷◌, ◌++◌, map, length, Some, refl, sym, ap, subst, ◌∙◌, append_assoc, arith}
use Rattle.std.specs.List.{All, filter}
use Rattle.std.specs.List.Sorted.{IsStrictlyIncreasing}
use Rattle.std.proofs.Math.Logic.{⊎_elim}
use Rattle.std.proofs.lemmas.Bool.{le-leb, lt-leb, lt-ltb, le-ltb, cases_lt}
use Rattle.std.proofs.lemmas.List.Elements.{All-cons, All-nil, All-head, All-tail, filter-append}
use Rattle.series_model.specs.declared.point.Point.{Point}
use Rattle.series_model.specs.declared.point.Split.{Split}
use Rattle.series_model.specs.Points.{points_from, starts_of}
use Rattle.series_model.specs.Stored.{split_span, split_at, splits_of}
use Rattle.series_model.proofs.ByKey.{filter-keep, filter-skip}
use Rattle.series_model.proofs.PointLaws.{at_of, floor-own, Rises-starts}
use Rattle.series_model.proofs.Rising.{Above, Rises, rising_from_Rises}
use Rattle.split_update.specs.Update.{AreSplits, IsInStretch, IsWellFormed, points_before, points_in, splits_from}
use Rattle.split_update.proofs.Runs.{Each, Each-append, Each-weaker, Runs, none, more, splits_of_run}

-- the keys of splits
abbrev pub keys_of : List Split → List ℕ
keys_of splits = map (λ (s : Split). s.key) splits

-- between two multiples is a whole stretch
pub multiple_gap : (a b n : ℕ) → 0 < n → a % n ≡ 0 → b % n ≡ 0 → a < b → a + n ≤ b
multiple_gap a b n positive am bm lt =
    ⊎_elim
    (λ near. absurd (omega (arith, lt, floor-own a b n am (omega (arith, lt)) near, floor-own b b n bm (omega arith) (omega (arith, positive)))))
    (λ far. far)
    (cases_lt b (a + n))

pub Each-filter : (P : ℕ → Type 0) (test : Point → Bool) (points : List Point) → Each P points → Each P (filter test points)
Each-filter P test [] each = tt
Each-filter P test (p ∷ points) each = by (test p) refl (Each-filter P test points each.1)
  where
    by : (b : Bool) → test p ≡ b → Each P (filter test points) → Each P (filter test (p ∷ points))
    by true is rest = subst (Each P) (sym (filter-keep test p points is)) (each.0, rest)
    by false is rest = subst (Each P) (sym (filter-skip test p points is)) rest

-- all points are kept, or none
pub from_all : (k : ℕ) (points : List Point) → Each (λ t. k ≤ t) points → points_from k points ≡ points
from_all k [] each = refl
from_all k (p ∷ points) each = filter-keep (λ (q : Point). leb k q.at) p points (le-leb k p.at each.0) ∙ ap (λ l. p ∷ l) (from_all k points each.1)

pub from_none : (k : ℕ) (points : List Point) → Each (λ t. t < k) points → points_from k points ≡ []
from_none k [] each = refl
from_none k (p ∷ points) each = filter-skip (λ (q : Point). leb k q.at) p points (lt-leb k p.at each.0) ∙ from_none k points each.1

pub before_all : (f : ℕ) (points : List Point) → Each (λ t. t < f) points → points_before f points ≡ points
before_all f [] each = refl
before_all f (p ∷ points) each = filter-keep (λ (q : Point). ltb q.at f) p points (lt-ltb p.at f each.0) ∙ ap (λ l. p ∷ l) (before_all f points each.1)

pub before_none : (f : ℕ) (points : List Point) → Each (λ t. f ≤ t) points → points_before f points ≡ []
before_none f [] each = refl
before_none f (p ∷ points) each = filter-skip (λ (q : Point). ltb q.at f) p points (le-ltb p.at f each.0) ∙ before_none f points each.1

module _ (g : ℕ) (wide : 0 < split_span g) where
  -- splits have the points that were cut, in their order
  pub points_back : (points : List Point) → Runs g points → points_in (splits_of g points) ≡ points
  points_back _ none = refl
  points_back _ (more key p run rest multiple each behind rises others) =
      ap points_in (splits_of_run g key wide multiple p run rest each behind) ∙ ap (λ l. (p ∷ run) ++ l) (points_back rest others)

  -- the splits from a key on are those of the points from there on
  pub cut_before : (k : ℕ) (points : List Point) → k % split_span g ≡ 0 → Runs g points → splits_from (Some k) (splits_of g points) ≡ splits_of g (points_from k points)
  cut_before k _ whole none = refl
  cut_before k _ whole (more key p run rest multiple each behind rises others) =
      let test : Split → Bool = λ s. leb k s.key in
      let made : Split = record { key = key; points = p ∷ run } in
      let halves : points_from k (p ∷ run ++ rest) ≡ points_from k (p ∷ run) ++ points_from k rest = filter-append (λ (q : Point). leb k q.at) (p ∷ run) rest in
      let first = ap (filter test) (splits_of_run g key wide multiple p run rest each behind) in
      let later = cut_before k rest whole others in
      ⊎_elim
      (λ early.
      let gap = multiple_gap key k (split_span g) wide multiple whole early in
      let gone : points_from k (p ∷ run) ≡ [] = from_none k (p ∷ run) (Each-weaker (λ t. (key ≤ t) × (t < key + split_span g)) (λ t. t < k) (λ t is. omega (arith, is.1, gap)) (p ∷ run) each) in
      first ∙ filter-skip test made (splits_of g rest) (lt-leb k key early) ∙ later
      ∙ ap (splits_of g) (sym (halves ∙ ap (λ l. l ++ points_from k rest) gone)))
      (λ late.
      let stays : points_from k (p ∷ run) ≡ p ∷ run = from_all k (p ∷ run) (Each-weaker (λ t. (key ≤ t) × (t < key + split_span g)) (λ t. k ≤ t) (λ t is. omega (arith, is.0, late)) (p ∷ run) each) in
      first ∙ filter-keep test made (splits_of g rest) (le-leb k key late) ∙ ap (λ l. made ∷ l) later
      ∙ sym (splits_of_run g key wide multiple p run (points_from k rest) each (Each-filter (λ t. key + split_span g ≤ t) (λ (q : Point). leb k q.at) rest behind))
      ∙ ap (splits_of g) (sym (halves ∙ ap (λ l. l ++ points_from k rest) stays)))
      (cases_lt key k)

  in_stretch : (key : ℕ) (points : List Point) → Each (λ t. (key ≤ t) × (t < key + split_span g)) points → Each (λ t. t % g ≡ 0) points → All (IsInStretch g key) points
  in_stretch key [] each multiples = All-nil (IsInStretch g key)
  in_stretch key (p ∷ points) each multiples =
      All-cons (IsInStretch g key) p points (record { from = each.0.0; until = each.0.1; multiple = multiples.0 }) (in_stretch key points each.1 multiples.1)

  Each-front : (P : ℕ → Type 0) (xs ys : List Point) → Each P (xs ++ ys) → Each P xs
  Each-front P [] ys each = tt
  Each-front P (x ∷ xs) ys each = (each.0, Each-front P xs ys each.1)

  Each-back : (P : ℕ → Type 0) (xs ys : List Point) → Each P (xs ++ ys) → Each P ys
  Each-back P [] ys each = each
  Each-back P (x ∷ xs) ys each = Each-back P xs ys each.1

  each_formed : (points : List Point) → Runs g points → Each (λ t. t % g ≡ 0) points → All (IsWellFormed g) (splits_of g points)
  each_formed _ none multiples = All-nil (IsWellFormed g)
  each_formed _ (more key p run rest multiple each behind rises others) multiples =
      let made : Split = record { key = key; points = p ∷ run } in
      let formed : IsWellFormed g made = record {
        key = multiple;
        some = omega arith;
        rising = rising_from_Rises (map at_of (p ∷ run)) rises;
        placed = in_stretch key (p ∷ run) each (Each-front (λ t. t % g ≡ 0) (p ∷ run) rest multiples);
      } in
      subst (All (IsWellFormed g)) (sym (splits_of_run g key wide multiple p run rest each behind))
      (All-cons (IsWellFormed g) made (splits_of g rest) formed (each_formed rest others (Each-back (λ t. t % g ≡ 0) (p ∷ run) rest multiples)))

  keys_cut : (points : List Point) (keys : List ℕ) → keys_of (map (split_at g points) keys) ≡ keys
  keys_cut points [] = refl
  keys_cut points (k ∷ keys) = ap (λ l. k ∷ l) (keys_cut points keys)

  -- points that rise, at multiples of the granularity, are cut into splits
  pub formed : (points : List Point) → Rises (map at_of points) → Runs g points → Each (λ t. t % g ≡ 0) points → AreSplits g (splits_of g points)
  formed points rises cut multiples = record {
    each = each_formed points cut multiples;
    rising = subst IsStrictlyIncreasing (sym (keys_cut points (starts_of (split_span g) (map at_of points)))) (rising_from_Rises (starts_of (split_span g) (map at_of points)) (Rises-starts (split_span g) (map at_of points) rises));
  }

  -- ---- splits in front of others

  each_placed : (key : ℕ) (points : List Point) → All (IsInStretch g key) points → Each (λ t. (key ≤ t) × (t < key + split_span g)) points
  each_placed key [] all = tt
  each_placed key (p ∷ points) all =
      let is = All-head (IsInStretch g key) p points all in
      ((is.from, is.until), each_placed key points (All-tail (IsInStretch g key) p points all))

  pub split_each : (s : Split) → IsWellFormed g s → Each (λ t. (s.key ≤ t) × (t < s.key + split_span g)) s.points
  split_each s is = each_placed s.key s.points is.placed

  -- the points of splits with later keys are behind a split
  pub behind_split : (key : ℕ) (splits : List Split) → key % split_span g ≡ 0 → All (IsWellFormed g) splits → Above key (keys_of splits) → Each (λ t. key + split_span g ≤ t) (points_in splits)
  behind_split key [] multiple all above = tt
  behind_split key (s ∷ splits) multiple all above =
      let is = All-head (IsWellFormed g) s splits all in
      let gap = multiple_gap key s.key (split_span g) wide multiple is.key above.0 in
      Each-append (λ t. key + split_span g ≤ t) s.points (points_in splits)
      (Each-weaker (λ t. (s.key ≤ t) × (t < s.key + split_span g)) (λ t. key + split_span g ≤ t) (λ t in_s. omega (arith, gap, in_s.0)) s.points (split_each s is))
      (behind_split key splits multiple (All-tail (IsWellFormed g) s splits all) above.1)

  pub split_again : (s : Split) (points rest : List Point) → s.points ≡ points → IsWellFormed g s → Each (λ t. s.key + split_span g ≤ t) rest → splits_of g (points ++ rest) ≡ s ∷ splits_of g rest
  split_again s [] rest is formed_so behind = absurd (omega (arith, formed_so.some, ap length is))
  split_again s (p ∷ run) rest is formed_so behind =
      splits_of_run g s.key wide formed_so.key p run rest (subst (Each (λ t. (s.key ≤ t) × (t < s.key + split_span g))) is (split_each s formed_so)) behind
      ∙ ap (λ l. (record { key = s.key; points = l }) ∷ splits_of g rest) (sym is)

  -- splits stay as they are in front of points that are behind them
  pub front_again : (splits : List Split) (rest : List Point) (k : ℕ) → k % split_span g ≡ 0 → All (IsWellFormed g) splits → Rises (keys_of splits) → All (λ s. s.key < k) splits → Each (λ t. k ≤ t) rest
      → splits_of g (points_in splits ++ rest) ≡ splits ++ splits_of g rest
  front_again [] rest k whole all rises early late = refl
  front_again (s ∷ splits) rest k whole all rises early late =
      let is = All-head (IsWellFormed g) s splits all in
      let others = All-tail (IsWellFormed g) s splits all in
      let gap = multiple_gap s.key k (split_span g) wide is.key whole (All-head (λ (x : Split). x.key < k) s splits early) in
      let behind : Each (λ t. s.key + split_span g ≤ t) (points_in splits ++ rest) =
      Each-append (λ t. s.key + split_span g ≤ t) (points_in splits) rest (behind_split s.key splits is.key others rises.0) (Each-weaker (λ t. k ≤ t) (λ t. s.key + split_span g ≤ t) (λ t le. omega (arith, gap, le)) rest late) in
      ap (splits_of g) (append_assoc s.points (points_in splits) rest)
      ∙ split_again s s.points (points_in splits ++ rest) refl is behind
      ∙ ap (λ l. s ∷ l) (front_again splits rest k whole others rises.1 (All-tail (λ (x : Split). x.key < k) s splits early) late)

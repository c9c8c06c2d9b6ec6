-- Points cut into runs, each of the stretch of one split.
use Rattle.std.proofs.Common.{◌≡◌, ℕ, zero, suc, ◌+◌, ◌%◌, ◌<◌, ◌≤◌, Bool, true, false, cond, leb, ltb, eqb, ◌&&◌, List, [], ◌∷◌, ◌++◌, map, length, refl, sym, ap, subst, ◌∙◌, append-nil, arith}
use Rattle.std.specs.List.{All, Contains, filter}
use Rattle.std.proofs.Math.Logic.{⊎_elim}
use Rattle.std.proofs.Math.Nat.{add-mod_right}
use Rattle.std.proofs.lemmas.Bool.{le-leb, lt-leb, lt-ltb, le-ltb, and_from, and_left, and_right, eqb-true, eq-eqb, ne_eqb, cases_lt}
use Rattle.std.proofs.lemmas.List.Elements.{All-head, All-tail, filter-append}
use Rattle.gno_num.specs.Floor.{floor_of}
use Rattle.series_model.specs.declared.point.Point.{Point}
use Rattle.series_model.specs.Points.{with_start, starts_of}
use Rattle.series_model.specs.Stored.{split_span, split_at, splits_of}
use Rattle.series_model.proofs.ByKey.{filter-keep, filter-skip}
use Rattle.series_model.proofs.Members.{Contains-here, Contains-there, Contains-cases}
use Rattle.series_model.proofs.PointLaws.{at_of, floor-le, floor-above, floor-mono, floor-multiple, floor-own, starts_from}
use Rattle.series_model.proofs.Rising.{Above, Rises}

-- the time of each point has P
abbrev pub Each : (ℕ → Type 0) → List Point → Type 0
Each P [] = Unit {0}
Each P (p ∷ points) = P p.at × Each P points

pub Each-contains : (P : ℕ → Type 0) (points : List Point) (at : ℕ) → Each P points → Contains (map at_of points) at → P at
Each-contains P [] at each c = absurd (omega (arith, c.1))
Each-contains P (p ∷ points) at each c = ⊎_elim (λ same. subst P same each.0) (Each-contains P points at each.1) (Contains-cases p.at (map at_of points) at c)

pub Each-weaker : (P Q : ℕ → Type 0) → ((t : ℕ) → P t → Q t) → (points : List Point) → Each P points → Each Q points
Each-weaker P Q has [] each = tt
Each-weaker P Q has (p ∷ points) each = (has p.at each.0, Each-weaker P Q has points each.1)

pub Each-append : (P : ℕ → Type 0) (xs ys : List Point) → Each P xs → Each P ys → Each P (xs ++ ys)
Each-append P [] ys h k = k
Each-append P (x ∷ xs) ys h k = (h.0, Each-append P xs ys h.1 k)

pub Each-all : (P : ℕ → Type 0) (points : List Point) → All (λ p. P p.at) points → Each P points
Each-all P [] all = tt
Each-all P (p ∷ points) all = (All-head (λ (q : Point). P q.at) p points all, Each-all P points (All-tail (λ (q : Point). P q.at) p points all))

-- maps that agree on the members of a list
map_same_on : {X Y : Type 0} (f h : X → Y) (xs : List X) → ((x : X) → Contains xs x → f x ≡ h x) → map f xs ≡ map h xs
map_same_on f h [] same = refl
map_same_on f h (x ∷ xs) same =
    ap (λ y. y ∷ map f xs) (same x (Contains-here x xs x refl)) ∙ ap (λ ys. h x ∷ ys) (map_same_on f h xs (λ y c. same y (Contains-there x xs y c)))

-- ---- starts

-- the start in front is the first, whether or not it stood there before
with_first : (s : ℕ) (ss : List ℕ) → (rest : List ℕ) × (with_start s ss ≡ s ∷ rest)
with_first s [] = ([], refl)
with_first s (t ∷ ts) = by (eqb s t) (eqb-true s t)
  where
    by : (b : Bool) → (b ≡ true → s ≡ t) → (rest : List ℕ) × (cond b (t ∷ ts) (s ∷ t ∷ ts) ≡ s ∷ rest)
    by true is = (ts, ap (λ x. x ∷ ts) (sym (is refl)))
    by false is = (t ∷ ts, refl)

with_same : (s : ℕ) (ts : List ℕ) → with_start s (s ∷ ts) ≡ s ∷ ts
with_same s ts = ap (λ b. cond b (s ∷ ts) (s ∷ s ∷ ts)) (eq-eqb s s refl)

with_other : (s t : ℕ) (ts : List ℕ) → (s ≡ t → ⊥) → with_start s (t ∷ ts) ≡ s ∷ t ∷ ts
with_other s t ts apart = ap (λ b. cond b (t ∷ ts) (s ∷ t ∷ ts)) (ne_eqb s t apart)

module _ (g key : ℕ) (wide : 0 < split_span g) (multiple : key % split_span g ≡ 0) where
  abbrev InKey : ℕ → Type 0
  InKey t = (key ≤ t) × (t < key + split_span g)

  abbrev Behind : ℕ → Type 0
  Behind t = key + split_span g ≤ t

  own : (t : ℕ) → InKey t → floor_of t (split_span g) ≡ key
  own t is = floor-own key t (split_span g) multiple is.0 is.1

  next_multiple : (key + split_span g) % split_span g ≡ 0
  next_multiple = add-mod_right key (split_span g) ∙ multiple

  -- a key of a later time is later
  later_key : (t : ℕ) → Behind t → key + split_span g ≤ floor_of t (split_span g)
  later_key t is =
      let self = floor-own (key + split_span g) (key + split_span g) (split_span g) next_multiple (omega arith) (omega (arith, wide)) in
      omega (arith, self, floor-mono (key + split_span g) t (split_span g) is)

  starts_of_run : (p : Point) (run rest : List Point) → Each InKey (p ∷ run) → Each Behind rest → starts_of (split_span g) (map at_of (p ∷ run ++ rest)) ≡ key ∷ starts_of (split_span g) (map at_of rest)
  starts_of_run p [] [] each behind = ap (λ k. k ∷ []) (own p.at each.0)
  starts_of_run p [] (q ∷ rest) each behind =
      let n = split_span g in
      let first = with_first (floor_of q.at n) (starts_of n (map at_of rest)) in
      ap (λ ss. with_start (floor_of p.at n) ss) first.1
      ∙ with_other (floor_of p.at n) (floor_of q.at n) first.0 (λ same. absurd (omega (arith, same, own p.at each.0, later_key q.at behind.0, wide)))
      ∙ ap (λ k. k ∷ floor_of q.at n ∷ first.0) (own p.at each.0)
      ∙ ap (λ ss. key ∷ ss) (sym first.1)
  starts_of_run p (r ∷ run) rest each behind =
      let n = split_span g in
      ap (λ ss. with_start (floor_of p.at n) ss) (starts_of_run r run rest each.1 behind)
      ∙ ap (λ k. with_start k (key ∷ starts_of n (map at_of rest))) (own p.at each.0)
      ∙ with_same key (starts_of n (map at_of rest))

  -- ---- the split of a run

  abbrev in_stretch : ℕ → Point → Bool
  in_stretch k p = leb k p.at && ltb p.at (k + split_span g)

  stretch_all : (run : List Point) → Each InKey run → filter (in_stretch key) run ≡ run
  stretch_all [] each = refl
  stretch_all (p ∷ run) each =
      filter-keep (in_stretch key) p run (and_from (leb key p.at) (ltb p.at (key + split_span g)) (le-leb key p.at each.0.0) (lt-ltb p.at (key + split_span g) each.0.1))
      ∙ ap (λ l. p ∷ l) (stretch_all run each.1)

  stretch_none : (rest : List Point) → Each Behind rest → filter (in_stretch key) rest ≡ []
  stretch_none [] each = refl
  stretch_none (p ∷ rest) each =
      filter-skip (in_stretch key) p rest (and_right (leb key p.at) (ltb p.at (key + split_span g)) (le-ltb p.at (key + split_span g) each.0))
      ∙ stretch_none rest each.1

  stretch_before : (k : ℕ) (run : List Point) → key + split_span g ≤ k → Each InKey run → filter (in_stretch k) run ≡ []
  stretch_before k [] le each = refl
  stretch_before k (p ∷ run) le each =
      filter-skip (in_stretch k) p run (and_left (leb k p.at) (ltb p.at (k + split_span g)) (lt-leb k p.at (omega (arith, le, each.0.1))))
      ∙ stretch_before k run le each.1

  -- the points of a run are one split, in front of those of what stands behind it
  pub splits_of_run : (p : Point) (run rest : List Point) → Each InKey (p ∷ run) → Each Behind rest
      → splits_of g (p ∷ run ++ rest) ≡ (record { key = key; points = p ∷ run }) ∷ splits_of g rest
  splits_of_run p run rest each behind =
      let n = split_span g in
      let all = p ∷ run ++ rest in
      let own_points : filter (in_stretch key) all ≡ p ∷ run =
      filter-append (in_stretch key) (p ∷ run) rest ∙ ap (λ l. l ++ filter (in_stretch key) rest) (stretch_all (p ∷ run) each) ∙ ap (λ l. (p ∷ run) ++ l) (stretch_none rest behind) ∙ append-nil (p ∷ run) in
      let first : split_at g all key ≡ record { key = key; points = p ∷ run } = ap (λ l. record { key = key; points = l }) own_points in
      let others : map (split_at g all) (starts_of n (map at_of rest)) ≡ map (split_at g rest) (starts_of n (map at_of rest)) =
      map_same_on (split_at g all) (split_at g rest) (starts_of n (map at_of rest)) (λ k c.
      let time = starts_from n (map at_of rest) k c in
      let late : Behind time.0 = Each-contains Behind rest time.0 behind time.1 in
      let above : key + n ≤ k = omega (arith, time.2, later_key time.0 late) in
      ap (λ l. record { key = k; points = l }) (filter-append (in_stretch k) (p ∷ run) rest ∙ ap (λ l. l ++ filter (in_stretch k) rest) (stretch_before k (p ∷ run) above each))) in
      ap (λ ks. map (split_at g all) ks) (starts_of_run p run rest each behind)
      ∙ ap (λ s. s ∷ map (split_at g all) (starts_of n (map at_of rest))) first
      ∙ ap (λ ss. (record { key = key; points = p ∷ run }) ∷ ss) others

-- ---- rising points, run by run

-- points that rise, cut into runs
pub data Runs (g : ℕ) : List Point → Type 0 where
  none : Runs g []
  more : (key : ℕ) (p : Point) (run rest : List Point) → key % split_span g ≡ 0 → Each (λ t. (key ≤ t) × (t < key + split_span g)) (p ∷ run) → Each (λ t. key + split_span g ≤ t) rest → Rises (map at_of (p ∷ run)) → Runs g rest → Runs g (p ∷ run ++ rest)

-- those that rise from one on are cut at a time
abbrev pub Cut : ℕ → List Point → Type 0
Cut at points = (front : List Point) × (rest : List Point) × (points ≡ front ++ rest) × Each (λ t. t < at) front × Each (λ t. at ≤ t) rest × (length rest ≤ length points)

above_late : (at t : ℕ) (points : List Point) → at ≤ t → Above t (map at_of points) → Each (λ u. at ≤ u) points
above_late at t [] le above = tt
above_late at t (p ∷ points) le above = (omega (arith, le, above.0), above_late at t points le above.1)

cut_at : (at : ℕ) (points : List Point) → Rises (map at_of points) → Cut at points
cut_at at [] rises = ([], [], refl, tt, tt, omega arith)
cut_at at (p ∷ points) rises =
    let rest = cut_at at points rises.1 in
    ⊎_elim
    (λ early. (p ∷ rest.0, rest.1, ap (λ l. p ∷ l) rest.2, (early, rest.3), rest.4, omega (arith, rest.5)))
    (λ late. ([], p ∷ points, refl, tt, (late, above_late at p.at points late rises.0), omega arith))
    (cases_lt p.at at)

pub Rises-front : (xs ys : List Point) → Rises (map at_of (xs ++ ys)) → Rises (map at_of xs)
Rises-front [] ys h = tt
Rises-front (x ∷ xs) ys h = (above_front x.at xs ys h.0, Rises-front xs ys h.1)
  where
    above_front : (at : ℕ) (xs ys : List Point) → Above at (map at_of (xs ++ ys)) → Above at (map at_of xs)
    above_front at [] ys h = tt
    above_front at (x ∷ xs) ys h = (h.0, above_front at xs ys h.1)

pub Rises-back : (xs ys : List Point) → Rises (map at_of (xs ++ ys)) → Rises (map at_of ys)
Rises-back [] ys h = h
Rises-back (x ∷ xs) ys h = Rises-back xs ys h.1

pub within_key : (key at n : ℕ) (points : List Point) → key ≤ at → Above at (map at_of points) → Each (λ t. t < key + n) points → Each (λ t. (key ≤ t) × (t < key + n)) points
within_key key at n [] le above each = tt
within_key key at n (p ∷ points) le above each = ((omega (arith, le, above.0), each.0), within_key key at n points le above.1 each.1)

runs_upto : (g fuel : ℕ) (points : List Point) → 0 < split_span g → length points ≤ fuel → Rises (map at_of points) → Runs g points
runs_upto g fuel [] wide few rises = none
runs_upto g zero (p ∷ points) wide few rises = absurd (omega (arith, few))
runs_upto g (suc fuel) (p ∷ points) wide few rises =
    let n = split_span g in
    let key = floor_of p.at n in
    let cut = cut_at (key + n) points rises.1 in
    let front = cut.0 in
    let rest = cut.1 in
    let whole : Rises (map at_of (p ∷ (front ++ rest))) = subst (λ l. Rises (map at_of (p ∷ l))) cut.2 rises in
    let run : Rises (map at_of (p ∷ front)) = Rises-front (p ∷ front) rest whole in
    let low = floor-le p.at n in
    let more_runs = runs_upto g fuel rest wide (omega (arith, few, cut.5)) (Rises-back (p ∷ front) rest whole) in
    subst (λ l. Runs g (p ∷ l)) (sym cut.2)
    (more key p front rest (floor-multiple p.at n) ((low, floor-above p.at n wide), within_key key p.at n front low run.0 cut.3) cut.4 run more_runs)

pub runs : (g : ℕ) (points : List Point) → 0 < split_span g → Rises (map at_of points) → Runs g points
runs g points wide rises = runs_upto g (length points) points wide (omega arith) rises

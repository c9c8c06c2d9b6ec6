-- The members of one bucket among others.
use Rattle.std.proofs.Common.{◌≡◌, ℕ, zero, suc, ◌+◌, ◌%◌, ◌<◌, ◌≤◌, Bool, true, false, cond, leb, ltb, eqb, ◌&&◌, List, [], ◌∷◌, ◌++◌, drop, length, get_or, Option, Some, None, ◌-ℤ◌, refl, ap, ◌∙◌, arith, append-nil}
use Rattle.std.specs.List.{All}
use Rattle.std.proofs.lemmas.Bool.{le-leb, lt-leb, lt-ltb, le-ltb, and_from, and_left, and_right, eq-eqb, ne_eqb}
use Rattle.std.proofs.lemmas.List.Elements.{All-head, All-tail, filter-append}
use Rattle.gno_num.specs.Floor.{floor_of}
use Rattle.series_model.specs.declared.measure.Measure.{Measure}
use Rattle.series_model.specs.Bucket.{bucket, changes}
use Rattle.series_model.specs.Points.{with_start, starts_of}
use Rattle.series_model.specs.Tail.{last_onto}
use Rattle.series_model.proofs.ByKey.{filter-keep, filter-skip}
use Rattle.series_model.proofs.PointLaws.{floor-above, floor-own, floor-mono}
use Rattle.series_model.proofs.Rising.{Above, Rises, times}
use Rattle.regroup.specs.Tallies.{changes_behind}

-- the time of each member has P
abbrev pub Each : (ℕ → Type 0) → List Measure → Type 0
Each P [] = Unit {0}
Each P (m ∷ members) = P m.at × Each P members

pub Each-append : (P : ℕ → Type 0) (xs ys : List Measure) → Each P xs → Each P ys → Each P (xs ++ ys)
Each-append P [] ys h k = k
Each-append P (x ∷ xs) ys h k = (h.0, Each-append P xs ys h.1 k)

pub Each-all : (P : ℕ → Type 0) (xs : List Measure) → All (λ m. P m.at) xs → Each P xs
Each-all P [] all = tt
Each-all P (x ∷ xs) all = (All-head (λ (m : Measure). P m.at) x xs all, Each-all P xs (All-tail (λ (m : Measure). P m.at) x xs all))

Each-above : (c : ℕ) (at : ℕ) (xs : List Measure) → c ≤ at → Above at (times xs) → Each (λ t. c ≤ t) xs
Each-above c at [] le h = tt
Each-above c at (x ∷ xs) le h = (omega arith, Each-above c at xs le h.1)

-- members that rise from one that isn't before a time
pub each_from : (c : ℕ) (xs : List Measure) → Rises (times xs) → ((d : Measure) → 0 < length xs → c ≤ (get_or xs 0 d).at) → Each (λ t. c ≤ t) xs
each_from c [] h first = tt
each_from c (x ∷ xs) h first = let le = first x (omega arith) in (le, Each-above c x.at xs le h.0)

-- members that rise to one that is before a time
pub each_below : (s : ℕ) (o : Option Measure) (xs : List Measure) → Rises (times xs) → ((b : Measure) → last_onto o xs ≡ Some b → b.at < s) → Each (λ t. t < s) xs
each_below s o [] h last = tt
each_below s o (x ∷ []) h last = (last x refl, tt)
each_below s o (x ∷ y ∷ xs) h last =
    let rest = each_below s (Some x) (y ∷ xs) h.1 last in
    (omega (arith, h.0.0, rest.0), rest)

pub Rises-drop : (n : ℕ) (xs : List Measure) → Rises (times xs) → Rises (times (drop n xs))
Rises-drop zero xs h = h
Rises-drop (suc n) [] h = tt
Rises-drop (suc n) (x ∷ xs) h = Rises-drop n xs h.1

Above-left : (at : ℕ) (xs ys : List Measure) → Above at (times (xs ++ ys)) → Above at (times xs)
Above-left at [] ys h = tt
Above-left at (x ∷ xs) ys h = (h.0, Above-left at xs ys h.1)

pub Rises-left : (xs ys : List Measure) → Rises (times (xs ++ ys)) → Rises (times xs)
Rises-left [] ys h = tt
Rises-left (x ∷ xs) ys h = (Above-left x.at xs ys h.0, Rises-left xs ys h.1)

pub Rises-right : (xs ys : List Measure) → Rises (times (xs ++ ys)) → Rises (times ys)
Rises-right [] ys h = h
Rises-right (x ∷ xs) ys h = Rises-right xs ys h.1

-- ---- changes

change_of : Measure → Measure → Measure
change_of m b = record { at = m.at; value = m.value -ℤ b.value }

pub changes-append : (o : Option Measure) (xs ys : List Measure) → changes_behind o (xs ++ ys) ≡ changes_behind o xs ++ changes_behind (last_onto o xs) ys
changes-append None [] ys = refl
changes-append None (x ∷ xs) ys = changes-append (Some x) xs ys
changes-append (Some b) [] ys = refl
changes-append (Some b) (x ∷ xs) ys = ap (λ l. (record { at = x.at; value = x.value -ℤ b.value }) ∷ l) (changes-append (Some x) xs ys)

changes_each : (P : ℕ → Type 0) (o : Option Measure) (xs : List Measure) → Each P xs → Each P (changes_behind o xs)
changes_each P None [] h = tt
changes_each P None (x ∷ xs) h = changes_each P (Some x) xs h.1
changes_each P (Some b) [] h = tt
changes_each P (Some b) (x ∷ xs) h = (h.0, changes_each P (Some x) xs h.1)

-- ---- what a bucket takes of a list

abbrev inside : ℕ → ℕ → Measure → Bool
inside g s m = leb s m.at && ltb m.at (s + g)

taken_all : (g s : ℕ) (xs : List Measure) → Each (λ t. s ≤ t) xs → Each (λ t. t < s + g) xs → bucket g s xs ≡ xs
taken_all g s [] low high = refl
taken_all g s (x ∷ xs) low high =
    filter-keep (inside g s) x xs (and_from (leb s x.at) (ltb x.at (s + g)) (le-leb s x.at low.0) (lt-ltb x.at (s + g) high.0))
    ∙ ap (λ l. x ∷ l) (taken_all g s xs low.1 high.1)

taken_before : (g s : ℕ) (xs : List Measure) → Each (λ t. t < s) xs → bucket g s xs ≡ []
taken_before g s [] early = refl
taken_before g s (x ∷ xs) early =
    filter-skip (inside g s) x xs (and_left (leb s x.at) (ltb x.at (s + g)) (lt-leb s x.at early.0)) ∙ taken_before g s xs early.1

taken_behind : (g s : ℕ) (xs : List Measure) → Each (λ t. s + g ≤ t) xs → bucket g s xs ≡ []
taken_behind g s [] late = refl
taken_behind g s (x ∷ xs) late =
    filter-skip (inside g s) x xs (and_right (leb s x.at) (ltb x.at (s + g)) (le-ltb x.at (s + g) late.0)) ∙ taken_behind g s xs late.1

-- the bucket of members in the middle
bucket_middle : (g s : ℕ) (front run rest : List Measure) → Each (λ t. t < s) front → Each (λ t. s ≤ t) run → Each (λ t. t < s + g) run → Each (λ t. s + g ≤ t) rest → bucket g s (front ++ (run ++ rest)) ≡ run
bucket_middle g s front run rest early low high late =
    filter-append (inside g s) front (run ++ rest)
    ∙ ap (λ l. l ++ bucket g s (run ++ rest)) (taken_before g s front early)
    ∙ filter-append (inside g s) run rest
    ∙ ap (λ l. bucket g s run ++ l) (taken_behind g s rest late) ∙ append-nil (bucket g s run)
    ∙ taken_all g s run low high

pub bucket_of_run : (g s : ℕ) (front run rest : List Measure) → Each (λ t. t < s) front → Each (λ t. s ≤ t) run → Each (λ t. t < s + g) run → Each (λ t. s + g ≤ t) rest → bucket g s (front ++ (run ++ rest)) ≡ run
bucket_of_run = bucket_middle

pub changes_of_run : (g s : ℕ) (front run rest : List Measure) → Each (λ t. t < s) front → Each (λ t. s ≤ t) run → Each (λ t. t < s + g) run → Each (λ t. s + g ≤ t) rest → bucket g s (changes (front ++ (run ++ rest))) ≡ changes_behind (last_onto None front) run
changes_of_run g s front run rest early low high late =
    let o = last_onto None front in
    ap (bucket g s) (changes-append None front (run ++ rest) ∙ ap (λ l. changes front ++ l) (changes-append o run rest))
    ∙ bucket_middle g s (changes front) (changes_behind o run) (changes_behind (last_onto o run) rest) (changes_each (λ t. t < s) None front early) (changes_each (λ t. s ≤ t) o run low) (changes_each (λ t. t < s + g) o run high) (changes_each (λ t. s + g ≤ t) (last_onto o run) rest late)

-- ---- starts

-- the first of these is above a number
FirstAbove : ℕ → List ℕ → Type 0
FirstAbove s [] = Unit {0}
FirstAbove s (t ∷ ts) = s < t

first_above_with : (s f : ℕ) (ts : List ℕ) → s < f → FirstAbove s ts → FirstAbove s (with_start f ts)
unfolding FirstAbove
first_above_with s f [] less h = less
first_above_with s f (t ∷ ts) less h = by (eqb f t)
  where
    by : (b : Bool) → FirstAbove s (cond b (t ∷ ts) (f ∷ t ∷ ts))
    by true = h
    by false = less

-- the bucket behind one begins where that ends
floor-next : (s g : ℕ) → 0 < g → s % g ≡ 0 → s < floor_of (s + g) g
floor-next s g positive multiple =
    omega (arith, floor-above (s + g) g positive, positive)

with-same : (s : ℕ) (ts : List ℕ) → with_start s (s ∷ ts) ≡ s ∷ ts
with-same s ts = ap (λ b. cond b (s ∷ ts) (s ∷ s ∷ ts)) (eq-eqb s s refl)

with-other : (s t : ℕ) (ts : List ℕ) → s < t → with_start s (t ∷ ts) ≡ s ∷ t ∷ ts
with-other s t ts less = ap (λ b. cond b (t ∷ ts) (s ∷ t ∷ ts)) (ne_eqb s t (λ same. absurd (omega (arith, less, same))))

-- the first start of members behind a bucket is behind its start
starts_late : (g s : ℕ) (rest : List Measure) → 0 < g → s % g ≡ 0 → Each (λ t. s + g ≤ t) rest → FirstAbove s (starts_of g (times rest))
unfolding FirstAbove
starts_late g s [] positive multiple late = tt
starts_late g s (m ∷ rest) positive multiple late =
    first_above_with s (floor_of m.at g) (starts_of g (times rest)) (omega (arith, above)) (starts_late g s rest positive multiple late.1)
  where
    above : s < floor_of m.at g
    above = omega (arith, floor-mono (s + g) m.at g late.0, floor-next s g positive multiple)

with-behind : (s : ℕ) (ts : List ℕ) → FirstAbove s ts → with_start s ts ≡ s ∷ ts
unfolding FirstAbove
with-behind s [] h = refl
with-behind s (t ∷ ts) h = with-other s t ts h

-- the starts of the members of one bucket and of those behind it
pub starts_of_run : (g s : ℕ) (m : Measure) (run rest : List Measure) → 0 < g → s % g ≡ 0 → Each (λ t. s ≤ t) (m ∷ run) → Each (λ t. t < s + g) (m ∷ run) → Each (λ t. s + g ≤ t) rest → starts_of g (times ((m ∷ run) ++ rest)) ≡ s ∷ starts_of g (times rest)
starts_of_run g s m [] rest positive multiple low high late =
    ap (λ f. with_start f (starts_of g (times rest))) (floor-own s m.at g multiple low.0 high.0)
    ∙ with-behind s (starts_of g (times rest)) (starts_late g s rest positive multiple late)
starts_of_run g s m (x ∷ run) rest positive multiple low high late =
    ap (with_start (floor_of m.at g)) (starts_of_run g s x run rest positive multiple low.1 high.1 late)
    ∙ ap (λ f. with_start f (s ∷ starts_of g (times rest))) (floor-own s m.at g multiple low.0 high.0)
    ∙ with-same s (starts_of g (times rest))

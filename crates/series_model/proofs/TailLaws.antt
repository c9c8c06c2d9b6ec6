-- What is kept of a series tells what it was kept for.
use Rattle.std.proofs.Common.{◌≡◌, ℕ, ◌+◌, ◌<◌, ◌≤◌, Bool, true, false, cond, leb, ltb, eqb, ◌&&◌, List, [], ◌∷◌, ◌++◌, map, Option, Some, None, ◌-ℤ◌, refl, sym, ap, subst, ◌∙◌, arith}
use Rattle.std.specs.List.{fold, All}
use Rattle.std.specs.Option.{option_map, option_to_list, IfSome}
use Rattle.std.proofs.Math.Logic.{⊎_elim}
use Rattle.std.proofs.lemmas.Bool.{le-leb, lt-leb, lt-ltb, le-ltb, leb-true, and_parts, cases_lt, cases_order, eq-eqb, ne_eqb}
use Rattle.std.proofs.lemmas.List.Sums.{fold-append}
use Rattle.std.proofs.lemmas.List.Elements.{All-head, All-tail}
use Rattle.archive_policy.specs.declared.kind.Kind.{Kind}
use Rattle.archive_policy.specs.Kinds.{is_rate}
use Rattle.series_model.specs.declared.measure.Measure.{Measure}
use Rattle.series_model.specs.declared.point.Point.{Point}
use Rattle.series_model.specs.Accepted.{later, latest}
use Rattle.series_model.specs.Bucket.{bucket, changes, changes_after, members_for, value_at, value_of}
use Rattle.series_model.specs.Points.{points_of, points_from, IsPoint, ArePoints}
use Rattle.series_model.specs.Series.{put, series_of_measures}
use Rattle.series_model.specs.Tail.{last_onto, last_time, members_from, members_before}
use Rattle.series_model.proofs.ByKey.{filter-keep, filter-skip, filter_within, Rises-filter, same_values}
use Rattle.series_model.proofs.PointLaws.{points_exact, points_one, points_filtered, points_as}
use Rattle.series_model.proofs.Rising.{Above, Rises, times, Rises-fold, last_value-series}
use Rattle.series_model.proofs.SeriesLaws.{Rises-series}

-- ---- the members from a time on and before it, one by one

pub from-keep : (c : ℕ) (m : Measure) (series : List Measure) → c ≤ m.at → members_from c (m ∷ series) ≡ m ∷ members_from c series
from-keep c m series le = filter-keep (λ (x : Measure). leb c x.at) m series (le-leb c m.at le)

pub from-skip : (c : ℕ) (m : Measure) (series : List Measure) → m.at < c → members_from c (m ∷ series) ≡ members_from c series
from-skip c m series less = filter-skip (λ (x : Measure). leb c x.at) m series (lt-leb c m.at less)

pub before-keep : (c : ℕ) (m : Measure) (series : List Measure) → m.at < c → members_before c (m ∷ series) ≡ m ∷ members_before c series
before-keep c m series less = filter-keep (λ (x : Measure). ltb x.at c) m series (lt-ltb m.at c less)

pub before-skip : (c : ℕ) (m : Measure) (series : List Measure) → c ≤ m.at → members_before c (m ∷ series) ≡ members_before c series
before-skip c m series le = filter-skip (λ (x : Measure). ltb x.at c) m series (le-ltb m.at c le)

-- all come after a time that isn't before
pub from-all : (c at : ℕ) (series : List Measure) → c ≤ at → Above at (times series) → members_from c series ≡ series
from-all c at [] le h = refl
from-all c at (m ∷ series) le h =
    from-keep c m series (omega arith) ∙ ap (λ l. m ∷ l) (from-all c at series le h.1)

pub before-none : (c at : ℕ) (series : List Measure) → c ≤ at → Above at (times series) → members_before c series ≡ []
before-none c at [] le h = refl
before-none c at (m ∷ series) le h = before-skip c m series (omega arith) ∙ before-none c at series le h.1

-- ---- one measure more

pub put-lower : (x : Measure) (series : List Measure) (m : Measure) → m.at < x.at → put (x ∷ series) m ≡ m ∷ x ∷ series
put-lower x series m less = ap (λ b. cond b (m ∷ x ∷ series) (cond (eqb m.at x.at) (m ∷ series) (x ∷ put series m))) (lt-ltb m.at x.at less)

pub put-same : (x : Measure) (series : List Measure) (m : Measure) → m.at ≡ x.at → put (x ∷ series) m ≡ m ∷ series
put-same x series m same =
    ap (λ b. cond b (m ∷ x ∷ series) (cond (eqb m.at x.at) (m ∷ series) (x ∷ put series m))) (le-ltb m.at x.at (omega (arith, same)))
    ∙ ap (λ b. cond b (m ∷ series) (x ∷ put series m)) (eq-eqb m.at x.at same)

pub put-higher : (x : Measure) (series : List Measure) (m : Measure) → x.at < m.at → put (x ∷ series) m ≡ x ∷ put series m
put-higher x series m more =
    ap (λ b. cond b (m ∷ x ∷ series) (cond (eqb m.at x.at) (m ∷ series) (x ∷ put series m))) (le-ltb m.at x.at (omega arith))
    ∙ ap (λ b. cond b (m ∷ series) (x ∷ put series m)) (ne_eqb m.at x.at (λ e. absurd (omega (arith, e, more))))

from-put : (c : ℕ) (series : List Measure) (m : Measure) → c ≤ m.at → members_from c (put series m) ≡ put (members_from c series) m
from-put c [] m le = from-keep c m [] le
from-put c (x ∷ series) m le =
    ⊎_elim
    (λ same. ap (members_from c) (put-same x series m same) ∙ from-keep c m series le
    ∙ sym (ap (λ l. put l m) (from-keep c x series (omega (arith, same, le))) ∙ put-same x (members_from c series) m same))
    (λ order. ⊎_elim
    (λ less. ap (members_from c) (put-lower x series m less) ∙ from-keep c m (x ∷ series) le
    ∙ ap (λ l. m ∷ l) (from-keep c x series (omega arith))
    ∙ sym (ap (λ l. put l m) (from-keep c x series (omega arith)) ∙ put-lower x (members_from c series) m less))
    (λ more. ap (members_from c) (put-higher x series m more) ∙ higher more (from-put c series m le))
    order)
    (cases_order m.at x.at)
  where
    higher : x.at < m.at → members_from c (put series m) ≡ put (members_from c series) m → members_from c (x ∷ put series m) ≡ put (members_from c (x ∷ series)) m
    higher more rest =
        ⊎_elim
        (λ skipped. from-skip c x (put series m) skipped ∙ rest ∙ sym (ap (λ l. put l m) (from-skip c x series skipped)))
        (λ kept. from-keep c x (put series m) kept ∙ ap (λ l. x ∷ l) rest
        ∙ sym (ap (λ l. put l m) (from-keep c x series kept) ∙ put-higher x (members_from c series) m more))
        (cases_lt x.at c)

before-put : (c : ℕ) (series : List Measure) (m : Measure) → c ≤ m.at → members_before c (put series m) ≡ members_before c series
before-put c [] m le = before-skip c m [] le
before-put c (x ∷ series) m le =
    ⊎_elim
    (λ same. ap (members_before c) (put-same x series m same) ∙ before-skip c m series le ∙ sym (before-skip c x series (omega (arith, same, le))))
    (λ order. ⊎_elim
    (λ less. ap (members_before c) (put-lower x series m less) ∙ before-skip c m (x ∷ series) le)
    (λ more. ap (members_before c) (put-higher x series m more) ∙ higher (before-put c series m le))
    order)
    (cases_order m.at x.at)
  where
    higher : members_before c (put series m) ≡ members_before c series → members_before c (x ∷ put series m) ≡ members_before c (x ∷ series)
    higher rest =
        ⊎_elim
        (λ kept. before-keep c x (put series m) kept ∙ ap (λ l. x ∷ l) rest ∙ sym (before-keep c x series kept))
        (λ skipped. before-skip c x (put series m) skipped ∙ rest ∙ sym (before-skip c x series skipped))
        (cases_lt x.at c)

-- measures that aren't before a time, put in their places
pub from-fold : (c : ℕ) (measures series : List Measure) → All (λ m. c ≤ m.at) measures → members_from c (fold put series measures) ≡ fold put (members_from c series) measures
from-fold c [] series all = refl
from-fold c (m ∷ measures) series all =
    from-fold c measures (put series m) (All-tail (λ (x : Measure). c ≤ x.at) m measures all)
    ∙ ap (λ l. fold put l measures) (from-put c series m (All-head (λ (x : Measure). c ≤ x.at) m measures all))

pub before-fold : (c : ℕ) (measures series : List Measure) → All (λ m. c ≤ m.at) measures → members_before c (fold put series measures) ≡ members_before c series
before-fold c [] series all = refl
before-fold c (m ∷ measures) series all =
    before-fold c measures (put series m) (All-tail (λ (x : Measure). c ≤ x.at) m measures all)
    ∙ before-put c series m (All-head (λ (x : Measure). c ≤ x.at) m measures all)

pub series-append : (xs ys : List Measure) → series_of_measures (xs ++ ys) ≡ fold put (series_of_measures xs) ys
series-append xs ys = fold-append put [] xs ys

-- a list that rises is its own series
pub series-own : (xs : List Measure) → Rises (times xs) → series_of_measures xs ≡ xs
series-own xs rising =
    same_values (series_of_measures xs) xs (Rises-series xs) rising (last_value-series xs)

-- ---- the greatest timestamp

pub later_le : (at : ℕ) (o : Option ℕ) → at ≤ later at o
later_le at None = omega arith
later_le at (Some other) = omega arith

-- the later of what stood before and these
abbrev pub join : Option ℕ → Option ℕ → Option ℕ
join None other = other
join (Some at) other = Some (later at other)

last_onto-cons : (o p : Option Measure) (m : Measure) (series : List Measure) → last_onto o (m ∷ series) ≡ last_onto p (m ∷ series)
last_onto-cons o p m series = refl

last-put : (o : Option Measure) (x : Measure) (series : List Measure) (m : Measure) → Rises (times (x ∷ series)) → option_map (λ (y : Measure). y.at) (last_onto o (put (x ∷ series) m)) ≡ join (option_map (λ (y : Measure). y.at) (last_onto o (x ∷ series))) (Some m.at)
last-put o x [] m h =
    ⊎_elim
    (λ same. ap (λ l. option_map (λ (y : Measure). y.at) (last_onto o l)) (put-same x [] m same) ∙ ap Some (omega (arith, same)))
    (λ order. ⊎_elim
    (λ less. ap (λ l. option_map (λ (y : Measure). y.at) (last_onto o l)) (put-lower x [] m less) ∙ ap Some (omega (arith, less)))
    (λ more. ap (λ l. option_map (λ (y : Measure). y.at) (last_onto o l)) (put-higher x [] m more) ∙ ap Some (omega (arith, more)))
    order)
    (cases_order m.at x.at)
last-put o x (y ∷ series) m h =
    ⊎_elim
    (λ same. ap (λ l. option_map (λ (y : Measure). y.at) (last_onto o l)) (put-same x (y ∷ series) m same) ∙ stays (omega (arith, same)))
    (λ order. ⊎_elim
    (λ less. ap (λ l. option_map (λ (y : Measure). y.at) (last_onto o l)) (put-lower x (y ∷ series) m less) ∙ stays (omega arith))
    (λ more. ap (λ l. option_map (λ (y : Measure). y.at) (last_onto o l)) (put-higher x (y ∷ series) m more) ∙ last-put (Some x) y series m h.1)
    order)
    (cases_order m.at x.at)
  where
    -- the last one is after each that stands before it
    late : (o : Option Measure) (at : ℕ) (y : Measure) (series : List Measure) → at < y.at → Rises (times (y ∷ series)) → (z : Measure) × (last_onto o (y ∷ series) ≡ Some z) × (at < z.at)
    late o at y [] less h = (y, refl, less)
    late o at y (w ∷ series) less h = late (Some y) at w series (omega (arith, less, h.0.0)) h.1

    stays : m.at ≤ x.at → option_map (λ (y : Measure). y.at) (last_onto o (y ∷ series)) ≡ join (option_map (λ (y : Measure). y.at) (last_onto o (y ∷ series))) (Some m.at)
    stays le =
        let z = late o x.at y series h.0.0 h.1 in
        ap (option_map (λ (y : Measure). y.at)) z.1
        ∙ ap Some (omega (arith, z.2, le))
        ∙ sym (ap (λ (w : Option Measure). join (option_map (λ (y : Measure). y.at) w) (Some m.at)) z.1)

last_time-put : (series : List Measure) (m : Measure) → Rises (times series) → last_time (put series m) ≡ join (last_time series) (Some m.at)
last_time-put [] m h = refl
last_time-put (x ∷ series) m h = last-put None x series m h

join-step : (o : Option ℕ) (at : ℕ) (rest : Option ℕ) → join (join o (Some at)) rest ≡ join o (Some (later at rest))
join-step None at rest = refl
join-step (Some x) at None = refl
join-step (Some x) at (Some y) = ap Some (omega arith)

pub last_time-fold : (measures series : List Measure) → Rises (times series) → last_time (fold put series measures) ≡ join (last_time series) (latest measures)
last_time-fold [] series h = by (last_time series)
  where
    by : (o : Option ℕ) → o ≡ join o None
    by None = refl
    by (Some x) = refl
last_time-fold (m ∷ measures) series h =
    last_time-fold measures (put series m) (Rises-fold (m ∷ []) series h)
    ∙ ap (λ o. join o (latest measures)) (last_time-put series m h)
    ∙ join-step (last_time series) m.at (latest measures)

-- the greatest timestamp is that of the last member
pub last_time-series : (measures : List Measure) → last_time (series_of_measures measures) ≡ latest measures
last_time-series measures = last_time-fold measures [] tt

-- the last member stays, where it isn't before the time
pub last-from : (c : ℕ) (o : Option Measure) (series : List Measure) → Rises (times series) → IfSome (last_onto None series) (λ m. c ≤ m.at) → last_onto None (members_from c series) ≡ last_onto None series
last-from c o [] h late = refl
last-from c o (x ∷ []) h late = ap (last_onto None) (from-keep c x [] late)
last-from c o (x ∷ y ∷ series) h late =
    ⊎_elim
    (λ skipped. ap (last_onto None) (from-skip c x (y ∷ series) skipped) ∙ last-from c o (y ∷ series) h.1 late)
    (λ kept. ap (last_onto None) (from-keep c x (y ∷ series) kept ∙ ap (λ l. x ∷ l) (from-all c x.at (y ∷ series) kept h.0)))
    (cases_lt x.at c)

-- ---- a later cut

pub from-later : (c w : ℕ) (series : List Measure) → c ≤ w → members_from w (members_from c series) ≡ members_from w series
from-later c w series le =
    filter_within (λ (m : Measure). leb w m.at) (λ (m : Measure). leb c m.at) (λ m is. le-leb c m.at (omega (arith, leb-true w m.at is, le))) series

pub anchor-later : (c w : ℕ) (o : Option Measure) (series : List Measure) → c ≤ w → Rises (times series) → last_onto (last_onto o (members_before c series)) (members_before w (members_from c series)) ≡ last_onto o (members_before w series)
anchor-later c w o [] le h = refl
anchor-later c w o (m ∷ series) le h =
    ⊎_elim
    (λ less. ap (λ l. last_onto (last_onto o l) (members_before w (members_from c (m ∷ series)))) (before-keep c m series less)
    ∙ ap (λ l. last_onto (last_onto (Some m) (members_before c series)) (members_before w l)) (from-skip c m series less)
    ∙ anchor-later c w (Some m) series le h.1
    ∙ sym (ap (last_onto o) (before-keep w m series (omega arith))))
    (λ late. ap (λ l. last_onto (last_onto o l) (members_before w (members_from c (m ∷ series)))) (before-skip c m series late ∙ before-none c m.at series late h.0)
    ∙ ap (λ l. last_onto o (members_before w l)) (from-keep c m series late ∙ ap (λ l. m ∷ l) (from-all c m.at series late h.0)))
    (cases_lt m.at c)

-- ---- the changes of a tail

-- members with the anchor in front, where there is one
abbrev pub anchored : Option Measure → List Measure → List Measure
anchored anchor series = option_to_list anchor ++ series

changes_tail : (c : ℕ) (b : Measure) (series : List Measure) → Rises (times series) → members_from c (changes_after b series) ≡ members_from c (changes (anchored (last_onto (Some b) (members_before c series)) (members_from c series)))
changes_tail c b [] h = refl
changes_tail c b (m ∷ series) h =
    let change : Measure = record { at = m.at; value = m.value -ℤ b.value } in
    ⊎_elim
    (λ less. from-skip c change (changes_after m series) less ∙ changes_tail c m series h.1
    ∙ sym (ap (λ l. members_from c (changes (anchored (last_onto (Some b) l) (members_from c (m ∷ series))))) (before-keep c m series less)
    ∙ ap (λ l. members_from c (changes (anchored (last_onto (Some m) (members_before c series)) l))) (from-skip c m series less)))
    (λ late. sym (ap (λ l. members_from c (changes (anchored (last_onto (Some b) l) (members_from c (m ∷ series))))) (before-skip c m series late ∙ before-none c m.at series late h.0)
    ∙ ap (λ l. members_from c (changes (anchored (Some b) l))) (from-keep c m series late ∙ ap (λ l. m ∷ l) (from-all c m.at series late h.0))))
    (cases_lt m.at c)

changes_tail_all : (c : ℕ) (series : List Measure) → Rises (times series) → members_from c (changes series) ≡ members_from c (changes (anchored (last_onto None (members_before c series)) (members_from c series)))
changes_tail_all c [] h = refl
changes_tail_all c (m ∷ series) h =
    ⊎_elim
    (λ less. changes_tail c m series h.1
    ∙ sym (ap (λ l. members_from c (changes (anchored (last_onto None l) (members_from c (m ∷ series))))) (before-keep c m series less)
    ∙ ap (λ l. members_from c (changes (anchored (last_onto (Some m) (members_before c series)) l))) (from-skip c m series less)))
    (λ late. sym (ap (λ l. members_from c (changes (anchored (last_onto None l) (members_from c (m ∷ series))))) (before-skip c m series late ∙ before-none c m.at series late h.0)
    ∙ ap (λ l. members_from c (changes (anchored None l))) (from-keep c m series late ∙ ap (λ l. m ∷ l) (from-all c m.at series late h.0))))
    (cases_lt m.at c)

-- ---- the values of a tail

abbrev inside : ℕ → ℕ → Measure → Bool
inside g s m = leb s m.at && ltb m.at (s + g)

inside_from : (g c s : ℕ) → c ≤ s → (m : Measure) → inside g s m ≡ true → leb c m.at ≡ true
inside_from g c s le m is =
    le-leb c m.at (omega (arith, leb-true s m.at (and_parts (leb s m.at) (ltb m.at (s + g)) is).0, le))

bucket_from : (g c s : ℕ) (series : List Measure) → c ≤ s → bucket g s (members_from c series) ≡ bucket g s series
bucket_from g c s series le = filter_within (inside g s) (λ (m : Measure). leb c m.at) (inside_from g c s le) series

-- an anchor is before the time
abbrev pub Below : ℕ → Option Measure → Type 0
Below c None = Unit {0}
Below c (Some m) = m.at < c

pub below_last : (c : ℕ) (o : Option Measure) (series : List Measure) → Below c o → Below c (last_onto o (members_before c series))
below_last c o [] b = b
below_last c o (m ∷ series) b =
    ⊎_elim
    (λ less. subst (λ l. Below c (last_onto o l)) (sym (before-keep c m series less)) (below_last c (Some m) series less))
    (λ late. subst (λ l. Below c (last_onto o l)) (sym (before-skip c m series late)) (below_last c o series b))
    (cases_lt m.at c)

from-anchored : (c : ℕ) (o : Option Measure) (series : List Measure) → Below c o → members_from c (anchored o series) ≡ members_from c series
from-anchored c None series b = refl
from-anchored c (Some m) series b = from-skip c m series b

-- the tail by a series that rises
abbrev pub tail_members : ℕ → List Measure → List Measure
tail_members c series = anchored (last_onto None (members_before c series)) (members_from c series)

bucket_tail : (kind : Kind) (g c s : ℕ) (series : List Measure) → c ≤ s → Rises (times series) → bucket g s (members_for kind series) ≡ bucket g s (members_for kind (tail_members c series))
bucket_tail kind g c s series le h = by (is_rate kind)
  where
    by : (rate : Bool) → bucket g s (cond rate (changes series) series) ≡ bucket g s (cond rate (changes (tail_members c series)) (tail_members c series))
    by true =
        sym (bucket_from g c s (changes series) le)
        ∙ ap (bucket g s) (changes_tail_all c series h)
        ∙ bucket_from g c s (changes (tail_members c series)) le
    by false =
        sym (bucket_from g c s series le)
        ∙ ap (bucket g s) (sym (from-later c c series (omega arith)) ∙ sym (from-anchored c (last_onto None (members_before c series)) (members_from c series) (below_last c None series tt)))
        ∙ bucket_from g c s (tail_members c series) le

-- a bucket that begins in the tail has its value there
pub value_tail : (kind : Kind) (g c s : ℕ) (series : List Measure) → c ≤ s → Rises (times series) → value_at kind g series s ≡ value_at kind g (tail_members c series) s
value_tail kind g c s series le h =
    ap (λ ms. value_of kind (map (λ (m : Measure). m.value) ms)) (bucket_tail kind g c s series le h)

-- ---- the tail rises

Above-from : (at c : ℕ) (series : List Measure) → at < c → Above at (times (members_from c series))
Above-from at c [] less = tt
Above-from at c (m ∷ series) less =
    ⊎_elim
    (λ skipped. subst (λ l. Above at (times l)) (sym (from-skip c m series skipped)) (Above-from at c series less))
    (λ kept. subst (λ l. Above at (times l)) (sym (from-keep c m series kept)) (omega arith, Above-from at c series less))
    (cases_lt m.at c)

pub Rises-anchored : (c : ℕ) (o : Option Measure) (series : List Measure) → Below c o → Rises (times series) → Rises (times (anchored o (members_from c series)))
Rises-anchored c None series b h = Rises-filter (λ (m : Measure). m.at) (λ (m : Measure). leb c m.at) series h
Rises-anchored c (Some a) series b h =
    (Above-from a.at c series b, Rises-filter (λ (m : Measure). m.at) (λ (m : Measure). leb c m.at) series h)

pub Rises-tail : (c : ℕ) (series : List Measure) → Rises (times series) → Rises (times (tail_members c series))
Rises-tail c series h = Rises-anchored c (last_onto None (members_before c series)) series (below_last c None series tt) h

-- ---- the points of a tail

-- The points from a time on that isn't before the tail's are those of the whole series.
pub points_tail : (kind : Kind) (g c from : ℕ) (series : List Measure) → c ≤ from → Rises (times series) → points_from from (points_of kind g (tail_members c series)) ≡ points_from from (points_of kind g series)
points_tail kind g c from series le h =
    let later : Point → Bool = λ p. leb from p.at in
    let part = tail_members c series in
    let P : Point → Type 0 = λ p. IsPoint kind g series p × (leb from p.at ≡ true) in
    let Q : Point → Type 0 = λ p. IsPoint kind g part p × (leb from p.at ≡ true) in
    let whole : ArePoints P (points_from from (points_of kind g series)) =
    points_filtered (IsPoint kind g series) later (points_of kind g series) (points_exact kind g series h) in
    let tail : ArePoints Q (points_from from (points_of kind g part)) =
    points_filtered (IsPoint kind g part) later (points_of kind g part) (points_exact kind g part (Rises-tail c series h)) in
    let same : (p : Point) → leb from p.at ≡ true → value_at kind g series p.at ≡ value_at kind g part p.at =
    λ p is. value_tail kind g c p.at series (omega (arith, leb-true from p.at is, le)) h in
    points_one P (points_from from (points_of kind g part)) (points_from from (points_of kind g series))
    (points_as Q P (points_from from (points_of kind g part)) (λ p q. (record { multiple = q.0.multiple; value = same p q.1 ∙ q.0.value }, q.1)) (λ p q. (record { multiple = q.0.multiple; value = sym (same p q.1) ∙ q.0.value }, q.1)) tail)
    whole

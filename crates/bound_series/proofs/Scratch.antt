-- A turn and a cut leave what grouping from scratch gives.
use Rattle.std.proofs.Common.{◌≡◌, ℕ, ◌<◌, ◌≤◌, Bool, true, false, cond, leb, List, [], ◌∷◌, ◌++◌, Option, Some, None, refl, sym, ap, subst, ◌∙◌, arith}
use Rattle.std.specs.List.{All, filter, fold}
use Rattle.std.specs.Option.{option_map, IfSome}
use Rattle.std.proofs.Math.Logic.{⊎_elim}
use Rattle.std.proofs.lemmas.Bool.{leb-true, leb-false, lt-leb, cases_lt}
use Rattle.std.proofs.lemmas.Option.{same_Some}
use Rattle.std.proofs.lemmas.List.Elements.{All-nil, All-cons, All-head, All-tail}
use Rattle.archive_policy.specs.Policies.{ArchivePolicy, largest_of}
use Rattle.series_model.specs.declared.measure.Measure.{Measure}
use Rattle.series_model.specs.Accepted.{later, latest, is_within}
use Rattle.series_model.specs.Series.{put, first_there, last_value, series_of_measures}
use Rattle.series_model.specs.Tail.{Tail, window_by, accepts_from, newly_accepted, tail_of, kept_window, last_onto, last_time, members_from, members_before, members_of}
use Rattle.series_model.proofs.ByKey.{same_values}
use Rattle.series_model.proofs.PointLaws.{floor-le}
use Rattle.series_model.proofs.Rising.{Above, Above-put, Above-lower, Rises, Rises-fold, times, last_value-fold, last_value-series}
use Rattle.series_model.proofs.SeriesLaws.{Rises-series}
use Rattle.series_model.proofs.TailLaws.{join as joined, later_le, from-all, before-none, from-fold, before-fold, from-later, anchor-later, last-from, last_time-fold, last_time-series, series-append, Below, below_last, anchored, Rises-anchored}
use Rattle.bound_series.specs.Turn.{reaches, tail_with, after_batch, cut_at}

-- ---- equal tails

pub same_tail : (s t : Tail) → s.points ≡ t.points → s.anchor ≡ t.anchor → s.last ≡ t.last → s ≡ t
same_tail s t points anchor last =
    let made : List Measure → Option Measure → Option ℕ → Tail = λ p a l. record { points = p; anchor = a; last = l } in
    ap (λ p. made p s.anchor s.last) points ∙ ap (λ a. made t.points a s.last) anchor ∙ ap (made t.points t.anchor) last

-- ---- the window

-- the window isn't after the greatest timestamp
pub accepts_le : (p : ArchivePolicy) (last : ℕ) → accepts_from p (Some last) ≤ last
accepts_le p last = omega (arith, floor-le last (largest_of p.definitions))

-- what is accepted isn't before the window
accepted_late : (p : ArchivePolicy) (o : Option ℕ) (m : Measure) → is_within (window_by p o) m ≡ true → accepts_from p o ≤ m.at
accepted_late p None m is = omega arith
accepted_late p (Some last) m is = leb-true (accepts_from p (Some last)) m.at is

pub all_late : (c : ℕ) (p : ArchivePolicy) (o : Option ℕ) (batch : List Measure) → c ≤ accepts_from p o → All (λ m. c ≤ m.at) (filter (is_within (window_by p o)) batch)
all_late c p o [] le = All-nil (λ (m : Measure). c ≤ m.at)
all_late c p o (m ∷ batch) le = by (is_within (window_by p o) m) refl (all_late c p o batch le)
  where
    by : (b : Bool) → is_within (window_by p o) m ≡ b → All (λ (x : Measure). c ≤ x.at) (filter (is_within (window_by p o)) batch) → All (λ (x : Measure). c ≤ x.at) (cond b (m ∷ filter (is_within (window_by p o)) batch) (filter (is_within (window_by p o)) batch))
    by true is rest = All-cons (λ (x : Measure). c ≤ x.at) m (filter (is_within (window_by p o)) batch) (omega (arith, le, accepted_late p o m is)) rest
    by false is rest = rest

-- ---- a series put in place

-- measures and their series come to the same
pub fold-series : (xs ms : List Measure) → Rises (times xs) → fold put xs (series_of_measures ms) ≡ fold put xs ms
fold-series xs ms h =
    same_values (fold put xs (series_of_measures ms)) (fold put xs ms) (Rises-fold (series_of_measures ms) xs h) (Rises-fold ms xs h)
    (λ at. last_value-fold (series_of_measures ms) xs at h ∙ ap (λ o. first_there o (last_value xs at)) (last_value-series ms at) ∙ sym (last_value-fold ms xs at h))

Above-fold : (at : ℕ) (ms xs : List Measure) → All (λ m. at < m.at) ms → Above at (times xs) → Above at (times (fold put xs ms))
Above-fold at [] xs all h = h
Above-fold at (m ∷ ms) xs all h =
    Above-fold at ms (put xs m) (All-tail (λ (x : Measure). at < x.at) m ms all) (Above-put at xs m (All-head (λ (x : Measure). at < x.at) m ms all) h)

above_all : (at : ℕ) (ms : List Measure) → Above at (times ms) → All (λ m. at < m.at) ms
above_all at [] h = All-nil (λ (m : Measure). at < m.at)
above_all at (m ∷ ms) h = All-cons (λ (x : Measure). at < x.at) m ms h.0 (above_all at ms h.1)

-- a series that doesn't reach the anchor leaves it in front
pub anchored_put : (o : Option Measure) (points series : List Measure) → Rises (times (anchored o points)) → Rises (times series) → reaches o series ≡ false → Rises (times (anchored o (fold put points series)))
anchored_put None points series h k apart = Rises-fold series points h
anchored_put (Some a) points [] h k apart = h
anchored_put (Some a) points (m ∷ series) h k apart =
    let less : a.at < m.at = leb-false m.at a.at apart in
    (Above-fold a.at (m ∷ series) points (above_all a.at (m ∷ series) (less, Above-lower a.at m.at (times series) (omega arith) k.0)) h.0, Rises-fold (m ∷ series) points h.1)

-- a series from a time on doesn't reach an anchor before it
not_reached : (c : ℕ) (o : Option Measure) (series : List Measure) → Below c o → All (λ m. c ≤ m.at) series → reaches o series ≡ false
not_reached c None series b all = refl
not_reached c (Some a) [] b all = refl
not_reached c (Some a) (m ∷ series) b all = lt-leb m.at a.at (omega (arith, b, All-head (λ (x : Measure). c ≤ x.at) m series all))

kept_late : (c : ℕ) (xs : List Measure) → All (λ (m : Measure). c ≤ m.at) (members_from c xs)
kept_late c [] = All-nil (λ (m : Measure). c ≤ m.at)
kept_late c (x ∷ xs) = by (leb c x.at) refl (kept_late c xs)
  where
    by : (b : Bool) → leb c x.at ≡ b → All (λ (m : Measure). c ≤ m.at) (members_from c xs) → All (λ (m : Measure). c ≤ m.at) (cond b (x ∷ members_from c xs) (members_from c xs))
    by true is rest = All-cons (λ (m : Measure). c ≤ m.at) x (members_from c xs) (leb-true c x.at is) rest
    by false is rest = rest

-- the series of measures from a time on is from there on
series_late : (c : ℕ) (ms : List Measure) → All (λ m. c ≤ m.at) ms → All (λ m. c ≤ m.at) (series_of_measures ms)
series_late c ms all =
    subst (λ l. All (λ (m : Measure). c ≤ m.at) l) (from-fold c ms [] all) (kept_late c (series_of_measures ms))

-- ---- a turn

-- the last member of the accepted isn't before a cut
late_last : (c : ℕ) (p : ArchivePolicy) (accepted acc : List Measure) → c ≤ accepts_from p (latest accepted) → IfSome (last_onto None (series_of_measures (accepted ++ acc))) (λ m. c ≤ m.at)
late_last c p accepted acc le = by (last_onto None (series_of_measures (accepted ++ acc))) refl
  where
    time : last_time (series_of_measures (accepted ++ acc)) ≡ joined (latest accepted) (latest acc)
    time =
        ap last_time (series-append accepted acc) ∙ last_time-fold acc (series_of_measures accepted) (Rises-series accepted)
        ∙ ap (λ o. joined o (latest acc)) (last_time-series accepted)

    by : (o : Option Measure) → last_onto None (series_of_measures (accepted ++ acc)) ≡ o → IfSome o (λ m. c ≤ m.at)
    by None is = tt
    by (Some m) is = late (latest accepted) le (sym (ap (option_map (λ (x : Measure). x.at)) is) ∙ time)
      where
        late : (o : Option ℕ) → c ≤ accepts_from p o → Some m.at ≡ joined o (latest acc) → c ≤ m.at
        late None le same = omega (arith, le)
        late (Some last) le same = omega (arith, le, accepts_le p last, same_Some m.at (later last (latest acc)) same, later_le last (latest acc))

pub accept_scratch : (p : ArchivePolicy) (c : ℕ) (accepted batch : List Measure) → c ≤ accepts_from p (latest accepted) → after_batch p (tail_of c accepted) batch ≡ tail_of c (accepted ++ newly_accepted p accepted batch)
accept_scratch p c accepted batch le =
    let acc = newly_accepted p accepted batch in
    let whole = series_of_measures accepted in
    let rises = Rises-series accepted in
    let all : All (λ m. c ≤ m.at) acc = all_late c p (latest accepted) batch le in
    let apart : reaches (tail_of c accepted).anchor (series_of_measures acc) ≡ false =
    not_reached c (tail_of c accepted).anchor (series_of_measures acc) (below_last c None whole tt) (series_late c acc all) in
    let points : fold put (members_from c whole) (series_of_measures acc) ≡ members_from c (series_of_measures (accepted ++ acc)) =
    fold-series (members_from c whole) acc (Rises-anchored c None whole tt rises)
    ∙ sym (from-fold c acc whole all) ∙ ap (members_from c) (sym (series-append accepted acc)) in
    let anchor : (tail_of c accepted).anchor ≡ (tail_of c (accepted ++ acc)).anchor =
    ap (last_onto None) (sym (before-fold c acc whole all) ∙ ap (members_before c) (sym (series-append accepted acc))) in
    let last : last_time (fold put (members_from c whole) (series_of_measures acc)) ≡ latest (accepted ++ acc) =
    ap last_time points ∙ ap (option_map (λ (m : Measure). m.at)) (last-from c None (series_of_measures (accepted ++ acc)) (Rises-series (accepted ++ acc)) (late_last c p accepted acc le))
    ∙ last_time-series (accepted ++ acc) in
    ap (λ b. cond b (tail_with (fold put (members_of (tail_of c accepted)) (series_of_measures acc)) None) (tail_with (fold put (members_from c whole) (series_of_measures acc)) (tail_of c accepted).anchor)) apart
    ∙ same_tail (tail_with (fold put (members_from c whole) (series_of_measures acc)) (tail_of c accepted).anchor) (tail_of c (accepted ++ acc)) points anchor last

-- ---- a cut

-- points rise without the anchor
pub points_rise : (o : Option Measure) (points : List Measure) → Rises (times (anchored o points)) → Rises (times points)
points_rise None points h = h
points_rise (Some a) points h = h.1

-- a list that rises doesn't reach its anchor
pub rising_apart : (o : Option Measure) (points : List Measure) → Rises (times (anchored o points)) → reaches o points ≡ false
rising_apart None points h = refl
rising_apart (Some a) [] h = refl
rising_apart (Some a) (m ∷ points) h = lt-leb m.at a.at h.0.0

pub rising_with : (o : Option Measure) (points : List Measure) → Rises (times points) → reaches o points ≡ false → Rises (times (anchored o points))
rising_with None points h apart = h
rising_with (Some a) [] h apart = (tt, tt)
rising_with (Some a) (m ∷ points) h apart =
    let less : a.at < m.at = leb-false m.at a.at apart in
    ((less, Above-lower a.at m.at (times points) (omega (arith, less)) h.0), h)

-- what a cut leaves rises
pub Rises-cut : (w : ℕ) (o : Option Measure) (points : List Measure) → Rises (times (anchored o points)) → Rises (times (anchored (last_onto o (members_before w points)) (members_from w points)))
Rises-cut w None points h = Rises-anchored w (last_onto None (members_before w points)) points (below_last w None points tt) h
Rises-cut w (Some a) points h =
    ⊎_elim
    (λ less. Rises-anchored w (last_onto (Some a) (members_before w points)) points (below_last w (Some a) points less) h.1)
    (λ late. subst (λ l. Rises (times (anchored (last_onto (Some a) l) (members_from w points)))) (sym (before-none w a.at points late h.0)) (subst (λ l. Rises (times (a ∷ l))) (sym (from-all w a.at points late h.0)) h))
    (cases_lt a.at w)

-- the last timestamp stays
pub last-cut : (p : ArchivePolicy) (points : List Measure) → Rises (times points) → last_time (members_from (accepts_from p (last_time points)) points) ≡ last_time points
last-cut p points h =
    ap (option_map (λ (m : Measure). m.at)) (last-from (accepts_from p (last_time points)) None points h (by (last_onto None points) refl))
  where
    by : (o : Option Measure) → last_onto None points ≡ o → IfSome o (λ m. accepts_from p (last_time points) ≤ m.at)
    by None is = tt
    by (Some m) is = subst (λ o. accepts_from p (option_map (λ (x : Measure). x.at) o) ≤ m.at) (sym is) (accepts_le p m.at)

pub cut_scratch : (p : ArchivePolicy) (c : ℕ) (accepted : List Measure) → c ≤ accepts_from p (latest accepted) → cut_at (accepts_from p (latest accepted)) (tail_of c accepted) ≡ kept_window p accepted
cut_scratch p c accepted le =
    let w = accepts_from p (latest accepted) in
    let whole = series_of_measures accepted in
    same_tail (cut_at w (tail_of c accepted)) (kept_window p accepted) (from-later c w whole le) (anchor-later c w None whole le (Rises-series accepted)) refl

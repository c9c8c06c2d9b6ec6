-- A turn leaves the stored splits that grouping from scratch gives.
use Rattle.std.proofs.Common.{◌≡◌, ℕ, ◌+◌, ◌%◌, ◌<◌, ◌≤◌, Bool, true, false, cond, leb, ltb, ◌&&◌, List, [], ◌∷◌, ◌++◌, map, length, drop, Option, Some, None, ◌-ℤ◌, refl, sym, ap, subst, ◌∙◌, append-nil, append_assoc, arith}
use Rattle.std.specs.List.{All, Any, Contains, filter, slice_get}
use Rattle.std.specs.Option.{IfSome, MatchOption}
use Rattle.std.proofs.Math.Logic.{⊎_elim}
use Rattle.std.proofs.Math.Seq.{drop-append_seam, drop-length}
use Rattle.std.proofs.lemmas.Bool.{le-leb, lt-leb, lt-ltb, le-ltb, leb-true, ltb-true, and_parts, cases_lt}
use Rattle.std.proofs.lemmas.Option.{none-some, same_Some}
use Rattle.std.proofs.lemmas.List.Elements.{All-weaker, All-contains_itself, filter-append}
use Rattle.gno_num.specs.Floor.{floor_of}
use Rattle.archive_policy.specs.declared.kind.Kind.{Kind}
use Rattle.archive_policy.specs.declared.definition.Definition.{Definition}
use Rattle.archive_policy.specs.Kinds.{is_rate}
use Rattle.archive_policy.specs.Policies.{ArchivePolicy, largest_of}
use Rattle.series_model.specs.declared.measure.Measure.{Measure}
use Rattle.series_model.specs.declared.point.Point.{Point}
use Rattle.series_model.specs.Accepted.{later, latest}
use Rattle.series_model.specs.AcceptedLaws.{accepted_of-append}
use Rattle.series_model.specs.Answer.{oldest_point_of}
use Rattle.series_model.specs.Bucket.{bucket, changes, changes_after, members_for, value_at, value_of}
use Rattle.series_model.specs.Points.{points_of, points_from, IsPoint}
use Rattle.series_model.specs.Series.{series_of_measures}
use Rattle.series_model.specs.Stored.{oldest_key_of, split_span, splits_of, splits_until, stored_of}
use Rattle.series_model.specs.Tail.{Tail, accepted_after, accepted_under, members_before, newly_accepted}
use Rattle.series_model.proofs.ByKey.{filter-keep, filter-skip, filter_within, Rises-filter}
use Rattle.series_model.proofs.PointLaws.{at_of, floor-le, floor-mono, floor-multiple, point_found, points_exact, points_one, points_filtered, points_as, Rises-points}
use Rattle.series_model.proofs.Rising.{Above, Rises, times}
use Rattle.series_model.proofs.SeriesLaws.{Rises-series}
use Rattle.series_model.proofs.TailLaws.{before-fold, before-keep, before-skip, before-none, series-append}
use Rattle.bound_series.specs.Jobs.{IsFromScratch, PreparedView, points_for, regrouped}
use Rattle.bound_series.specs.Turn.{earliest}
use Rattle.bound_series.proofs.Earliest.{earliest_least}
use Rattle.split_update.specs.Update.{AreSplits, oldest_by, points_before, points_in, points_since, splits_after, splits_from}
use Rattle.split_update.proofs.Runs.{Each, Each-all, runs}
use Rattle.split_update.proofs.RunLaws.{cut_before, formed, multiple_gap, points_back}
use Rattle.split_update.proofs.Making.{Each-since, Rises-joined, Rises-since, each_early}
use Rattle.split_update.proofs.Updating.{after_anew, own_again}

-- ---- the members before a time are enough for the points before it

-- a member less the one before it
abbrev change : Measure → Measure → Measure
change m before = record { at = m.at; value = m.value -ℤ before.value }

changes_late : (f at : ℕ) (m : Measure) (series : List Measure) → f ≤ at → Above at (times series) → members_before f (changes_after m series) ≡ []
changes_late f at m [] le above = refl
changes_late f at m (x ∷ series) le above =
    filter-skip (λ (y : Measure). ltb y.at f) (change x m) (changes_after x series) (le-ltb x.at f (omega (arith, le, above.0)))
    ∙ changes_late f at x series le above.1

changes_after_before : (f : ℕ) (b : Measure) (series : List Measure) → Rises (times series) → members_before f (changes_after b series) ≡ changes_after b (members_before f series)
changes_after_before f b [] rises = refl
changes_after_before f b (m ∷ series) rises =
    ⊎_elim
    (λ early.
    filter-keep (λ (y : Measure). ltb y.at f) (change m b) (changes_after m series) (lt-ltb m.at f early)
    ∙ ap (λ l. change m b ∷ l) (changes_after_before f m series rises.1)
    ∙ ap (changes_after b) (sym (before-keep f m series early)))
    (λ late.
    filter-skip (λ (y : Measure). ltb y.at f) (change m b) (changes_after m series) (le-ltb m.at f late)
    ∙ changes_late f m.at m series late rises.0
    ∙ ap (changes_after b) (sym (before-skip f m series late ∙ before-none f m.at series late rises.0)))
    (cases_lt m.at f)

changes_before : (f : ℕ) (series : List Measure) → Rises (times series) → members_before f (changes series) ≡ changes (members_before f series)
changes_before f [] rises = refl
changes_before f (m ∷ series) rises =
    ⊎_elim
    (λ early. changes_after_before f m series rises.1 ∙ ap changes (sym (before-keep f m series early)))
    (λ late. changes_late f m.at m series late rises.0 ∙ ap changes (sym (before-skip f m series late ∙ before-none f m.at series late rises.0)))
    (cases_lt m.at f)

kind_before : (kind : Kind) (f : ℕ) (series : List Measure) → Rises (times series) → members_before f (members_for kind series) ≡ members_for kind (members_before f series)
kind_before kind f series rises = by (is_rate kind)
  where
    by : (rate : Bool) → members_before f (cond rate (changes series) series) ≡ cond rate (changes (members_before f series)) (members_before f series)
    by true = changes_before f series rises
    by false = refl

-- the value of a bucket that ends before a time
value_before : (kind : Kind) (g s f : ℕ) (series : List Measure) → s + g ≤ f → Rises (times series) → value_at kind g series s ≡ value_at kind g (members_before f series) s
value_before kind g s f series le rises =
    ap (λ l. value_of kind (map (λ (m : Measure). m.value) l))
    (sym (filter_within (λ (m : Measure). leb s m.at && ltb m.at (s + g)) (λ (m : Measure). ltb m.at f)
    (λ m inside. let parts = and_parts (leb s m.at) (ltb m.at (s + g)) inside in lt-ltb m.at f (omega (arith, ltb-true m.at (s + g) parts.1, le)))
    (members_for kind series))
    ∙ ap (bucket g s) (kind_before kind f series rises))

same_points : (kind : Kind) (g f : ℕ) (xs ys : List Measure) → 0 < g → f % g ≡ 0 → Rises (times xs) → Rises (times ys) → members_before f xs ≡ members_before f ys
    → points_before f (points_of kind g xs) ≡ points_before f (points_of kind g ys)
same_points kind g f xs ys positive multiple h k same =
    let test : Point → Bool = λ p. ltb p.at f in
    points_one (λ p. IsPoint kind g xs p × (test p ≡ true)) (filter test (points_of kind g xs)) (filter test (points_of kind g ys))
    (points_filtered (IsPoint kind g xs) test (points_of kind g xs) (points_exact kind g xs h))
    (points_as (λ p. IsPoint kind g ys p × (test p ≡ true)) (λ p. IsPoint kind g xs p × (test p ≡ true)) (filter test (points_of kind g ys))
    (λ p is. (moved ys xs k h (sym same) p is.0 is.1, is.1)) (λ p is. (moved xs ys h k same p is.0 is.1, is.1))
    (points_filtered (IsPoint kind g ys) test (points_of kind g ys) (points_exact kind g ys k)))
  where
    moved : (us vs : List Measure) → Rises (times us) → Rises (times vs) → members_before f us ≡ members_before f vs → (p : Point) → IsPoint kind g us p → ltb p.at f ≡ true → IsPoint kind g vs p
    moved us vs hu hv equal p is early =
        let ends : p.at + g ≤ f = multiple_gap p.at f g positive is.multiple multiple (ltb-true p.at f early) in
        record {
          multiple = is.multiple;
          value = value_before kind g p.at f vs ends hv ∙ ap (λ l. value_at kind g l p.at) (sym equal) ∙ sym (value_before kind g p.at f us ends hu) ∙ is.value;
        }

-- ---- filters of points

filter_swap : {X : Type 0} (p q : X → Bool) (xs : List X) → filter p (filter q xs) ≡ filter q (filter p xs)
filter_swap p q [] = refl
filter_swap {X} p q (x ∷ xs) = by (p x) (q x) refl refl (filter_swap p q xs)
  where
    by : (a b : Bool) → p x ≡ a → q x ≡ b → filter p (filter q xs) ≡ filter q (filter p xs) → filter p (cond b (x ∷ filter q xs) (filter q xs)) ≡ filter q (cond a (x ∷ filter p xs) (filter p xs))
    by true true pa qb rest = filter-keep p x (filter q xs) pa ∙ ap (λ l. x ∷ l) rest ∙ sym (filter-keep q x (filter p xs) qb)
    by true false pa qb rest = rest ∙ sym (filter-skip q x (filter p xs) qb)
    by false true pa qb rest = filter-skip p x (filter q xs) pa ∙ rest
    by false false pa qb rest = rest

-- the points since an earlier key don't matter for those from a later one
since_later : (f k : ℕ) (o : Option ℕ) (points : List Point) → IfSome o (λ older. older ≤ k) → points_from k (points_before f (points_since o points)) ≡ points_from k (points_before f points)
since_later f k None points le = refl
since_later f k (Some older) points le =
    ap (points_from k) (filter_swap (λ (p : Point). ltb p.at f) (λ (p : Point). leb older p.at) points)
    ∙ filter_within (λ (p : Point). leb k p.at) (λ (p : Point). leb older p.at) (λ p is. le-leb older p.at (omega (arith, le, leb-true k p.at is))) (points_before f points)

-- points that rise are those before a time and those from it on
both_halves : (f : ℕ) (points : List Point) → Rises (map at_of points) → points_before f points ++ points_from f points ≡ points
both_halves f [] rises = refl
both_halves f (p ∷ points) rises =
    ⊎_elim
    (λ early.
    ap (λ l. l ++ points_from f (p ∷ points)) (filter-keep (λ (q : Point). ltb q.at f) p points (lt-ltb p.at f early))
    ∙ ap (λ l. p ∷ (points_before f points ++ l)) (filter-skip (λ (q : Point). leb f q.at) p points (lt-leb f p.at early))
    ∙ ap (λ l. p ∷ l) (both_halves f points rises.1))
    (λ late.
    ap (λ l. l ++ points_from f (p ∷ points)) (filter-skip (λ (q : Point). ltb q.at f) p points (le-ltb p.at f late) ∙ none_before f p.at points late rises.0)
    ∙ filter-keep (λ (q : Point). leb f q.at) p points (le-leb f p.at late)
    ∙ ap (λ l. p ∷ l) (all_from f p.at points late rises.0))
    (cases_lt p.at f)
  where
    none_before : (f at : ℕ) (points : List Point) → f ≤ at → Above at (map at_of points) → points_before f points ≡ []
    none_before f at [] le above = refl
    none_before f at (q ∷ points) le above = filter-skip (λ (x : Point). ltb x.at f) q points (le-ltb q.at f (omega (arith, le, above.0))) ∙ none_before f at points le above.1

    all_from : (f at : ℕ) (points : List Point) → f ≤ at → Above at (map at_of points) → points_from f points ≡ points
    all_from f at [] le above = refl
    all_from f at (q ∷ points) le above = filter-keep (λ (x : Point). leb f x.at) q points (le-leb f q.at (omega (arith, le, above.0))) ∙ ap (λ l. q ∷ l) (all_from f at points le above.1)

late_points : (f : ℕ) (points : List Point) → Each (λ t. f ≤ t) (points_from f points)
late_points f [] = tt
late_points f (p ∷ points) =
    ⊎_elim
    (λ early. subst (Each (λ t. f ≤ t)) (sym (filter-skip (λ (q : Point). leb f q.at) p points (lt-leb f p.at early))) (late_points f points))
    (λ late. subst (Each (λ t. f ≤ t)) (sym (filter-keep (λ (q : Point). leb f q.at) p points (le-leb f p.at late))) (late, late_points f points))
    (cases_lt p.at f)

-- ---- the greatest timestamp grows

abbrev Upto : Option ℕ → Option ℕ → Type 0
Upto None o = Unit {0}
Upto (Some a) None = ⊥
Upto (Some a) (Some b) = a ≤ b

latest_grows : (xs ys : List Measure) → Upto (latest xs) (latest (xs ++ ys))
latest_grows [] ys = tt
latest_grows (m ∷ xs) ys = by (latest xs) (latest (xs ++ ys)) (latest_grows xs ys)
  where
    by : (o p : Option ℕ) → Upto o p → later m.at o ≤ later m.at p
    by None None h = omega arith
    by None (Some b) h = omega arith
    by (Some a) None h = absurd h
    by (Some a) (Some b) h = omega (arith, h)

oldest_grows : (d : Definition) (a b : ℕ) → a ≤ b → oldest_key_of a d ≤ oldest_key_of b d
oldest_grows d a b le =
    floor-mono (oldest_point_of a d) (oldest_point_of b d) (split_span d.granularity) (omega (arith, floor-mono a b d.granularity le))

-- ---- stored splits

module _ (kind : Kind) (d : Definition) (positive : 0 < d.granularity) where
  abbrev g : ℕ
  g = d.granularity

  wide : 0 < split_span g
  wide = omega (arith, positive)

  abbrev points_by : List Measure → List Point
  points_by accepted = points_of kind g (series_of_measures accepted)

  points_rise : (accepted : List Measure) → Rises (map at_of (points_by accepted))
  points_rise accepted = Rises-points kind g (series_of_measures accepted) (Rises-series accepted)

  points_multiple : (accepted : List Measure) → Each (λ t. t % g ≡ 0) (points_by accepted)
  points_multiple accepted =
      Each-all (λ t. t % g ≡ 0) (points_by accepted)
      (All-weaker (Contains (points_by accepted)) (λ p. p.at % g ≡ 0) (λ p c. (point_found kind g (series_of_measures accepted) p c).multiple) (points_by accepted) (All-contains_itself (points_by accepted)))

  key_whole : (last : ℕ) → oldest_key_of last d % split_span g ≡ 0
  key_whole last = floor-multiple (oldest_point_of last d) (split_span g)

  -- what is stored are splits
  pub stored_formed : (accepted : List Measure) → AreSplits g (stored_of kind d accepted)
  stored_formed accepted = by (latest accepted)
    where
      by : (o : Option ℕ) → AreSplits g (splits_until kind d (series_of_measures accepted) o)
      by None = formed g wide [] tt (runs g [] wide tt) tt
      by (Some last) =
          let k = Some (oldest_key_of last d) in
          let points = points_since k (points_by accepted) in
          let rises = Rises-since k (points_by accepted) (points_rise accepted) in
          formed g wide points rises (runs g points wide rises) (Each-since (λ t. t % g ≡ 0) k (points_by accepted) (points_multiple accepted))

  -- and its points are those of the series from the oldest key on
  stored_points : (accepted : List Measure) → points_in (stored_of kind d accepted) ≡ points_since (oldest_by d (latest accepted)) (points_by accepted)
  stored_points [] = refl
  stored_points (m ∷ rest) =
      let accepted = m ∷ rest in
      let k = Some (oldest_key_of (later m.at (latest rest)) d) in
      let points = points_since k (points_by accepted) in
      points_back g wide points (runs g points wide (Rises-since k (points_by accepted) (points_rise accepted)))

  -- nothing of it is before the oldest key
  stored_kept : (accepted : List Measure) → splits_from (oldest_by d (latest accepted)) (stored_of kind d accepted) ≡ stored_of kind d accepted
  stored_kept [] = refl
  stored_kept (m ∷ rest) =
      let accepted = m ∷ rest in
      let k = oldest_key_of (later m.at (latest rest)) d in
      let points = points_from k (points_by accepted) in
      cut_before g wide k points (key_whole (later m.at (latest rest))) (runs g points wide (Rises-since (Some k) (points_by accepted) (points_rise accepted)))
      ∙ ap (splits_of g) (filter_within (λ (p : Point). leb k p.at) (λ (p : Point). leb k p.at) (λ p is. is) (points_by accepted))

  -- measures from a time on were accepted behind others: what is stored then
  stored_more : (accepted more : List Measure) (from last : ℕ) → All (λ m. from ≤ m.at) more → latest (accepted ++ more) ≡ Some last
      → splits_from (Some (oldest_key_of last d)) (splits_of g (points_before (floor_of from g) (points_in (stored_of kind d accepted)) ++ points_from (floor_of from g) (points_by (accepted ++ more))))
      ≡ stored_of kind d (accepted ++ more)
  stored_more accepted more from last late last_is =
      let f = floor_of from g in
      let k = oldest_key_of last d in
      let all = accepted ++ more in
      let o = oldest_by d (latest accepted) in
      let old = points_before f (points_in (stored_of kind d accepted)) in
      let new = points_from f (points_by all) in
      let old_rises : Rises (map at_of old) = Rises-filter at_of (λ (p : Point). ltb p.at f) (points_in (stored_of kind d accepted)) (subst (λ l. Rises (map at_of l)) (sym (stored_points accepted)) (Rises-since o (points_by accepted) (points_rise accepted))) in
      let new_late : Each (λ t. f ≤ t) new = late_points f (points_by all) in
      let rises : Rises (map at_of (old ++ new)) = Rises-joined f old new (each_early f (points_in (stored_of kind d accepted))) new_late old_rises (Rises-since (Some f) (points_by all) (points_rise all)) in
      let same : members_before f (series_of_measures all) ≡ members_before f (series_of_measures accepted) =
      ap (members_before f) (series-append accepted more) ∙ before-fold f more (series_of_measures accepted) (All-weaker (λ m. from ≤ m.at) (λ m. f ≤ m.at) (λ m le. omega (arith, le, floor-le from g)) more late) in
      let older : IfSome o (λ key. key ≤ k) = by (latest accepted) (subst (Upto (latest accepted)) last_is (latest_grows accepted more)) in
      let front : points_from k old ≡ points_from k (points_before f (points_by all)) =
      ap (λ l. points_from k (points_before f l)) (stored_points accepted)
      ∙ since_later f k o (points_by accepted) older
      ∙ ap (points_from k) (same_points kind g f (series_of_measures accepted) (series_of_measures all) positive (floor-multiple from g) (Rises-series accepted) (Rises-series all) (sym same)) in
      cut_before g wide k (old ++ new) (key_whole last) (runs g (old ++ new) wide rises)
      ∙ ap (splits_of g)
      (filter-append (λ (p : Point). leb k p.at) old new
      ∙ ap (λ l. l ++ points_from k new) front
      ∙ sym (filter-append (λ (p : Point). leb k p.at) (points_before f (points_by all)) new)
      ∙ ap (points_from k) (both_halves f (points_by all) (points_rise all)))
      ∙ ap (splits_until kind d (series_of_measures all)) (sym last_is)
    where
      by : (o : Option ℕ) → Upto o (Some last) → IfSome (oldest_by d o) (λ key. key ≤ oldest_key_of last d)
      by None h = tt
      by (Some a) h = oldest_grows d a last h

-- ---- a turn

-- what was accepted before stays in front
grown : (p : ArchivePolicy) (accepted : List Measure) (batches : List (List Measure)) → accepted_after p accepted batches ≡ accepted ++ drop (length accepted) (accepted_after p accepted batches)
grown p accepted [] = sym (ap (λ l. accepted ++ l) (drop-length accepted) ∙ append-nil accepted)
grown p accepted (batch ∷ batches) =
    let more = newly_accepted p accepted batch in
    let whole = accepted_after p (accepted ++ more) batches in
    let rest = drop (length (accepted ++ more)) whole in
    let is : whole ≡ accepted ++ (more ++ rest) = grown p (accepted ++ more) batches ∙ append_assoc accepted more rest in
    is ∙ ap (λ l. accepted ++ l) (sym (ap (drop (length accepted)) is ∙ drop-append_seam accepted (more ++ rest)))

abbrev IsLeast : List Measure → ℕ → Type 0
IsLeast measures first = All (λ m. first ≤ m.at) measures × Any (λ m. m.at ≡ first) measures

none_earliest : (measures : List Measure) → earliest measures ≡ None → measures ≡ []
none_earliest measures none = subst (λ o. MatchOption o (measures ≡ []) (IsLeast measures)) none (earliest_least measures)

all_from_earliest : (measures : List Measure) (from : ℕ) → earliest measures ≡ Some from → All (λ m. from ≤ m.at) measures
all_from_earliest measures from some = let least : IsLeast measures from = subst (λ o. MatchOption o (measures ≡ []) (IsLeast measures)) some (earliest_least measures) in least.0

some_latest : (accepted more : List Measure) (from : ℕ) → earliest more ≡ Some from → (last : ℕ) × (latest (accepted ++ more) ≡ Some last)
some_latest [] [] from some = absurd (none-some from some)
some_latest [] (m ∷ more) from some = (later m.at (latest more), refl)
some_latest (m ∷ accepted) more from some = (later m.at (latest (accepted ++ more)), refl)

-- what a turn leaves of the stored splits, where it accepted these measures behind the others
turn_leaves : (kind : Kind) (d : Definition) (accepted more : List Measure) (from : Option ℕ) → 0 < d.granularity → earliest more ≡ from
    → splits_after d.granularity (oldest_by d (latest (accepted ++ more))) from (regrouped kind d.granularity (series_of_measures (accepted ++ more)) from) (stored_of kind d accepted)
    ≡ stored_of kind d (accepted ++ more)
turn_leaves kind d accepted more None positive is =
    let same : accepted ++ more ≡ accepted = ap (λ l. accepted ++ l) (none_earliest more is) ∙ append-nil accepted in
    after_anew d.granularity (oldest_by d (latest (accepted ++ more))) None [] (stored_of kind d accepted) positive (stored_formed kind d positive accepted) (λ at there. absurd (none-some at there))
    ∙ ap (splits_from (oldest_by d (latest (accepted ++ more)))) (own kind d accepted positive)
    ∙ ap (λ l. splits_from (oldest_by d (latest l)) (stored_of kind d accepted)) same
    ∙ stored_kept kind d positive accepted
    ∙ ap (stored_of kind d) (sym same)
  where
    own : (kind : Kind) (d : Definition) (accepted : List Measure) → 0 < d.granularity → splits_of d.granularity (points_in (stored_of kind d accepted)) ≡ stored_of kind d accepted
    own kind d accepted positive = own_again d.granularity (omega (arith, positive)) (stored_of kind d accepted) (stored_formed kind d positive accepted)
turn_leaves kind d accepted more (Some from) positive is =
    let g = d.granularity in
    let last = some_latest accepted more from is in
    let new = points_from (floor_of from g) (points_of kind g (series_of_measures (accepted ++ more))) in
    after_anew g (oldest_by d (latest (accepted ++ more))) (Some from) new (stored_of kind d accepted) positive (stored_formed kind d positive accepted)
    (λ at there. subst (λ t. Each (λ u. floor_of t g ≤ u) new) (same_Some from at there) (late_points (floor_of from g) (points_of kind g (series_of_measures (accepted ++ more)))))
    ∙ ap (λ o. splits_from (oldest_by d o) (splits_of g (points_before (floor_of from g) (points_in (stored_of kind d accepted)) ++ new))) last.1
    ∙ stored_more kind d positive accepted more from last.0 (all_from_earliest more from is) last.1

pub from_scratch : (p : PreparedView) (before : List (List Measure)) (i : ℕ) (d : Definition) (kind : Kind) → 0 < d.granularity → slice_get p.job.policy.definitions i ≡ Some d → Contains p.job.policy.kinds kind → IsFromScratch p before
    → splits_after d.granularity (oldest_by d p.raw.last) p.from (points_for p i kind) (stored_of kind d (accepted_under p.job.policy before)) ≡ stored_of kind d (accepted_under p.job.policy (before ++ p.job.batches))
from_scratch p before i d kind positive is_d among scratch =
    let policy = p.job.policy in
    let accepted = accepted_under policy before in
    let all = accepted_under policy (before ++ p.job.batches) in
    let more = drop (length accepted) all in
    let whole : accepted_after policy accepted p.job.batches ≡ all = sym (accepted_of-append (largest_of policy.definitions) policy.back_window before p.job.batches) in
    let joined : all ≡ accepted ++ more = sym whole ∙ grown policy accepted p.job.batches ∙ ap (λ l. accepted ++ drop (length accepted) l) whole in
    let last : p.raw.last ≡ latest (accepted ++ more) = ap (λ (t : Tail). t.last) scratch.raw ∙ ap latest joined in
    let points : points_for p i kind ≡ regrouped kind d.granularity (series_of_measures (accepted ++ more)) p.from = scratch.points i d kind is_d among ∙ ap (λ l. regrouped kind d.granularity (series_of_measures l) p.from) joined in
    ap (λ o. splits_after d.granularity (oldest_by d o) p.from (points_for p i kind) (stored_of kind d accepted)) last
    ∙ ap (λ l. splits_after d.granularity (oldest_by d (latest (accepted ++ more))) p.from l (stored_of kind d accepted)) points
    ∙ turn_leaves kind d accepted more p.from positive (sym scratch.from)
    ∙ ap (stored_of kind d) (sym joined)

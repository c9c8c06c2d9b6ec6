-- The post that has waited longest.
use Rattle.std.proofs.Common.{◌≡◌, inl, inr, ℕ, ◌<◌, Bool, true, false, cond, eqb, ltb, ◌&&◌, List, [], ◌∷◌, map, Option, Some, None, refl, sym, ap, subst, ◌∙◌, arith}
use Rattle.std.specs.List.{filter, fold, slice_get}
use Rattle.std.specs.List.Sorted.{IsStrictlyIncreasing}
use Rattle.std.specs.Option.{IfSome, IsSome, option_map}
use Rattle.std.proofs.lemmas.Bool.{and_parts, cases_lt, eqb-true, le-ltb, lt-ltb}
use Rattle.std.proofs.lemmas.Option.{same_Some}
use Rattle.archive_policy.proofs.Rising.{Above, Rises, Rises_from_rising}
use Rattle.series_model.specs.declared.metric.MetricId.{MetricId}
use Rattle.incoming.specs.declared.mark.Mark.{Mark}
use Rattle.incoming.specs.Posts.{RiseFrom, is_above}
use Rattle.shelf_records.specs.Shelved.{Shelved, metric_of}
use Rattle.sack_state.specs.declared.books.Books.{Books}
use Rattle.sack_state.specs.Claiming.{first_waiting, smaller}
use Rattle.sack_state.specs.SackView.{is_above_done, marks_waiting}
use Rattle.sack_state.specs.Waiting.{numbers_over}
use Rattle.sack_state.proofs.WaitingLemmas.{AllFound, all_found, below_none, flipped}

-- ---- the smaller of two

none_last : (a : Option Mark) → smaller a None ≡ a
none_last None = refl
none_last (Some m) = refl

first_least : (m : Mark) (o : Option Mark) → IfSome o (λ (n : Mark). m.number < n.number) → smaller (Some m) o ≡ Some m
first_least m None lt = refl
first_least m (Some n) lt = ap (λ b. cond b (Some n) (Some m)) (let less : m.number < n.number = lt in le-ltb n.number m.number (omega (arith, less)))

second_least : (o : Option Mark) (n : Mark) → IfSome o (λ (m : Mark). n.number < m.number) → smaller o (Some n) ≡ Some n
second_least None n lt = refl
second_least (Some m) n lt = ap (λ b. cond b (Some n) (Some m)) (lt-ltb n.number m.number lt)

pub smaller_then : (a b c : Option Mark) → smaller (smaller a b) c ≡ smaller a (smaller b c)
smaller_then None b c = refl
smaller_then (Some m) None c = refl
smaller_then (Some m) (Some n) None = by (ltb n.number m.number)
  where
    by : (d : Bool) → smaller (cond d (Some n) (Some m)) None ≡ cond d (Some n) (Some m)
    by true = refl
    by false = refl
smaller_then (Some m) (Some n) (Some k) = elim (cases_lt n.number m.number) [
  | inl lt ↦
      ap (λ d. smaller (cond d (Some n) (Some m)) (Some k)) (lt-ltb n.number m.number lt)
      ∙ elim (cases_lt k.number n.number) [
        | inl less ↦
            ap (λ d. cond d (Some k) (Some n)) (lt-ltb k.number n.number less)
            ∙ sym (ap (λ d. smaller (Some m) (cond d (Some k) (Some n))) (lt-ltb k.number n.number less)
            ∙ ap (λ d. cond d (Some k) (Some m)) (lt-ltb k.number m.number (omega (arith, lt, less))))
        | inr ge ↦
            ap (λ d. cond d (Some k) (Some n)) (le-ltb k.number n.number ge)
            ∙ sym (ap (λ d. smaller (Some m) (cond d (Some k) (Some n))) (le-ltb k.number n.number ge)
            ∙ ap (λ d. cond d (Some n) (Some m)) (lt-ltb n.number m.number lt))
      ]
  | inr le ↦
      ap (λ d. smaller (cond d (Some n) (Some m)) (Some k)) (le-ltb n.number m.number le)
      ∙ elim (cases_lt k.number n.number) [
        | inl less ↦ sym (ap (λ d. smaller (Some m) (cond d (Some k) (Some n))) (lt-ltb k.number n.number less))
        | inr ge ↦
            ap (λ d. cond d (Some k) (Some m)) (le-ltb k.number m.number (omega (arith, le, ge)))
            ∙ sym (ap (λ d. smaller (Some m) (cond d (Some k) (Some n))) (le-ltb k.number n.number ge)
            ∙ ap (λ d. cond d (Some n) (Some m)) (le-ltb n.number m.number le))
      ]
]

-- ---- the first mark that passes a test

abbrev pub first_of : (Mark → Bool) → List Mark → Option Mark
first_of p marks = slice_get (filter p marks) 0

first_above : (p : Mark → Bool) (low : ℕ) (marks : List Mark) → RiseFrom low marks → IfSome (first_of p marks) (λ (n : Mark). low < n.number)
first_above p low [] rise = tt
first_above p low (m ∷ marks) rise = by (p m) (lower (first_of p marks) (first_above p m.number marks rise.1))
  where
    lower : (o : Option Mark) → IfSome o (λ (n : Mark). m.number < n.number) → IfSome o (λ (n : Mark). low < n.number)
    lower None lt = tt
    lower (Some n) lt = let less = rise.0 in omega (arith, lt, less)

    by : (c : Bool) → IfSome (first_of p marks) (λ (n : Mark). low < n.number) → IfSome (slice_get (cond c (m ∷ filter p marks) (filter p marks)) 0) (λ (n : Mark). low < n.number)
    by true rest = rise.0
    by false rest = rest

module _ (m : Shelved) (metrics : List Shelved) (above : Above m.id.0 (map (λ (x : Shelved). x.id.0) metrics)) where
  abbrev waits : Mark → Bool
  waits = λ (mark : Mark). is_above_done (metric_of mark.metric (m ∷ metrics)) mark.number

  abbrev later : Mark → Bool
  later = λ (mark : Mark). is_above_done (metric_of mark.metric metrics) mark.number

  -- the first post that waits is the first of the first metric, or of the others
  first_parts : (low : ℕ) (marks : List Mark) → RiseFrom low marks → first_of waits marks ≡ smaller (first_of (is_above m.id m.done) marks) (first_of later marks)
  first_parts low [] rise = refl
  first_parts low (mark ∷ marks) rise = by (eqb m.id.0 mark.metric.0) refl (first_parts mark.number marks rise.1)
    where
      by : (c : Bool) → eqb m.id.0 mark.metric.0 ≡ c → first_of waits marks ≡ smaller (first_of (is_above m.id m.done) marks) (first_of later marks)
          → first_of waits (mark ∷ marks) ≡ smaller (first_of (is_above m.id m.done) (mark ∷ marks)) (first_of later (mark ∷ marks))
      by true same rest =
          let first : waits mark ≡ ltb m.done mark.number = ap (λ b. is_above_done (cond b (Some m) (metric_of mark.metric metrics)) mark.number) same in
          let own : is_above m.id m.done mark ≡ ltb m.done mark.number = ap (λ b. b && ltb m.done mark.number) (flipped m.id.0 mark.metric.0 true same) in
          let none : later mark ≡ false = ap (λ o. is_above_done o mark.number) (below_none mark.metric m.id.0 metrics (sym (eqb-true m.id.0 mark.metric.0 same)) above) in
          ap (λ b. slice_get (cond b (mark ∷ filter waits marks) (filter waits marks)) 0) first
          ∙ chosen_own (ltb m.done mark.number) rest
          ∙ sym (ap (λ b. smaller (slice_get (cond b (mark ∷ filter (is_above m.id m.done) marks) (filter (is_above m.id m.done) marks)) 0) (first_of later (mark ∷ marks))) own
          ∙ ap (λ b. smaller (slice_get (cond (ltb m.done mark.number) (mark ∷ filter (is_above m.id m.done) marks) (filter (is_above m.id m.done) marks)) 0) (slice_get (cond b (mark ∷ filter later marks) (filter later marks)) 0)) none)
        where
          chosen_own : (d : Bool) → first_of waits marks ≡ smaller (first_of (is_above m.id m.done) marks) (first_of later marks)
              → slice_get (cond d (mark ∷ filter waits marks) (filter waits marks)) 0 ≡ smaller (slice_get (cond d (mark ∷ filter (is_above m.id m.done) marks) (filter (is_above m.id m.done) marks)) 0) (first_of later marks)
          chosen_own true rest = sym (first_least mark (first_of later marks) (first_above later mark.number marks rise.1))
          chosen_own false rest = rest
      by false other rest =
          let first : waits mark ≡ later mark = ap (λ b. is_above_done (cond b (Some m) (metric_of mark.metric metrics)) mark.number) other in
          let own : is_above m.id m.done mark ≡ false = ap (λ b. b && ltb m.done mark.number) (flipped m.id.0 mark.metric.0 false other) in
          ap (λ b. slice_get (cond b (mark ∷ filter waits marks) (filter waits marks)) 0) first
          ∙ chosen_other (later mark) rest
          ∙ sym (ap (λ b. smaller (slice_get (cond b (mark ∷ filter (is_above m.id m.done) marks) (filter (is_above m.id m.done) marks)) 0) (first_of later (mark ∷ marks))) own)
        where
          chosen_other : (d : Bool) → first_of waits marks ≡ smaller (first_of (is_above m.id m.done) marks) (first_of later marks)
              → slice_get (cond d (mark ∷ filter waits marks) (filter waits marks)) 0 ≡ smaller (first_of (is_above m.id m.done) marks) (slice_get (cond d (mark ∷ filter later marks) (filter later marks)) 0)
          chosen_other true rest = sym (second_least (first_of (is_above m.id m.done) marks) mark (first_above (is_above m.id m.done) mark.number marks rise.1))
          chosen_other false rest = rest

-- ---- the first of each metric

same_id : (m n : MetricId) → m.0 ≡ n.0 → m ≡ n
same_id m n is = ap (λ (i : ℕ). let x : MetricId = record { 0 = i } in x) is

-- the first mark of a metric, by the first of its numbers
by_number : (id : MetricId) (done : ℕ) (marks : List Mark)
    → option_map (λ (n : ℕ). let x : Mark = record { number = n; metric = id } in x) (slice_get (map (λ (mark : Mark). mark.number) (filter (is_above id done) marks)) 0) ≡ first_of (is_above id done) marks
by_number id done [] = refl
by_number id done (mark ∷ marks) = by (is_above id done mark) refl (by_number id done marks)
  where
    by : (c : Bool) → is_above id done mark ≡ c
        → option_map (λ (n : ℕ). let x : Mark = record { number = n; metric = id } in x) (slice_get (map (λ (x : Mark). x.number) (filter (is_above id done) marks)) 0) ≡ first_of (is_above id done) marks
        → option_map (λ (n : ℕ). let x : Mark = record { number = n; metric = id } in x) (slice_get (map (λ (x : Mark). x.number) (cond c (mark ∷ filter (is_above id done) marks) (filter (is_above id done) marks))) 0)
        ≡ slice_get (cond c (mark ∷ filter (is_above id done) marks) (filter (is_above id done) marks)) 0
    by true is rest =
        let own : mark.metric ≡ id = same_id mark.metric id (eqb-true mark.metric.0 id.0 (and_parts (eqb mark.metric.0 id.0) (ltb done mark.number) is).0) in
        ap (λ (i : MetricId). let x : Mark = record { number = mark.number; metric = i } in Some x) (sym own)
    by false is rest = rest

abbrev pub least_with : {D : Type 0} → Books D → Option Mark → MetricId → Option Mark
least_with b least id = smaller least (first_waiting b id)

module _ {D : Type 0} (b : Books D) (rise : RiseFrom 0 b.incoming.marks) where
  own_first : (m : Shelved) → metric_of m.id b.shelf.metrics ≡ Some m → first_waiting b m.id ≡ first_of (is_above m.id m.done) b.incoming.marks
  own_first m found =
      ap (λ o. option_map (λ (n : ℕ). let x : Mark = record { number = n; metric = m.id } in x) (slice_get (numbers_over (option_map (λ (x : Shelved). x.done) o) m.id b.incoming.marks) 0)) found
      ∙ by_number m.id m.done b.incoming.marks

  none_first : (marks : List Mark) → first_of (λ (mark : Mark). is_above_done (metric_of mark.metric []) mark.number) marks ≡ None
  none_first [] = refl
  none_first (mark ∷ marks) = none_first marks

  pub least_from : (least : Option Mark) (metrics : List Shelved) → AllFound b.shelf.metrics metrics → Rises (map (λ (m : Shelved). m.id.0) metrics)
      → fold (least_with b) least (map (λ (m : Shelved). m.id) metrics) ≡ smaller least (first_of (λ (mark : Mark). is_above_done (metric_of mark.metric metrics) mark.number) b.incoming.marks)
  least_from least [] found rises = sym (ap (smaller least) (none_first b.incoming.marks) ∙ none_last least)
  least_from least (m ∷ metrics) found rises =
      least_from (least_with b least m.id) metrics found.1 rises.1
      ∙ ap (λ o. smaller (smaller least o) (first_of (λ (mark : Mark). is_above_done (metric_of mark.metric metrics) mark.number) b.incoming.marks)) (own_first m found.0)
      ∙ smaller_then least (first_of (is_above m.id m.done) b.incoming.marks) (first_of (λ (mark : Mark). is_above_done (metric_of mark.metric metrics) mark.number) b.incoming.marks)
      ∙ ap (smaller least) (sym (first_parts m metrics rises.0 0 b.incoming.marks rise))

  -- the first of all metrics is the first post that waits
  pub least_all : (ids : List MetricId) → ids ≡ map (λ (m : Shelved). m.id) b.shelf.metrics → IsStrictlyIncreasing (map (λ (m : Shelved). m.id.0) b.shelf.metrics) → fold (least_with b) None ids ≡ slice_get (marks_waiting b) 0
  least_all ids is rising =
      let rises = Rises_from_rising (map (λ (m : Shelved). m.id.0) b.shelf.metrics) rising in
      ap (fold (least_with b) None) is ∙ least_from None b.shelf.metrics (all_found b.shelf.metrics rises) rises

-- ---- its metric

passes : (p : Mark → Bool) (marks : List Mark) (first : Mark) → first_of p marks ≡ Some first → p first ≡ true
passes p [] first is = absurd cc
passes p (mark ∷ marks) first is = by (p mark) refl is (passes p marks first)
  where
    by : (c : Bool) → p mark ≡ c → slice_get (cond c (mark ∷ filter p marks) (filter p marks)) 0 ≡ Some first → (first_of p marks ≡ Some first → p first ≡ true) → p first ≡ true
    by true passed there rest = subst (λ (m : Mark). p m ≡ true) (same_Some mark first there) passed
    by false not_passed there rest = rest there

-- the metric of the first post that waits is live
pub first_live : {D : Type 0} (b : Books D) (first : Mark) → slice_get (marks_waiting b) 0 ≡ Some first → IsSome (metric_of first.metric b.shelf.metrics)
first_live b first is = by (metric_of first.metric b.shelf.metrics) (passes (λ (mark : Mark). is_above_done (metric_of mark.metric b.shelf.metrics) mark.number) b.incoming.marks first is)
  where
    by : (o : Option Shelved) → is_above_done o first.number ≡ true → IsSome o
    by None waits = absurd cc
    by (Some m) waits = refl

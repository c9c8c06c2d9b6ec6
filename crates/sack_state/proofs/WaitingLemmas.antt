-- The posts that wait, metric by metric.
use Rattle.std.proofs.Common.{◌≡◌, ℕ, ◌+◌, ◌-◌, ◌<◌, ◌≤◌, ◌^◌, min, Bool, true, false, cond, eqb, ltb, ◌&&◌, List, [], ◌∷◌, map, length, Some, None, refl, sym, ap, ◌∙◌, arith}
use Rattle.std.specs.List.{filter, sum_by}
use Rattle.std.specs.List.Sorted.{IsStrictlyIncreasing}
use Rattle.std.specs.Option.{option_map}
use Rattle.std.proofs.lemmas.Bool.{eq-eqb, eqb-false, eqb-true, ne_eqb}
use Rattle.std.proofs.lemmas.List.{length-map}
use Rattle.std.proofs.lemmas.List.Sums.{sum_by-cons}
use Rattle.archive_policy.proofs.Rising.{Above, Rises, Rises_from_rising}
use Rattle.series_model.specs.declared.metric.MetricId.{MetricId}
use Rattle.incoming.specs.declared.mark.Mark.{Mark}
use Rattle.incoming.specs.Posts.{RiseFrom, is_above, last_from, last_number}
use Rattle.shelf_records.specs.Shelved.{Shelved, metric_of}
use Rattle.sack_state.specs.declared.books.Books.{Books}
use Rattle.sack_state.specs.SackView.{is_above_done, marks_waiting}
use Rattle.sack_state.specs.Waiting.{numbers_over, numbers_waiting}

-- ---- metrics by rising identifier

-- a metric below all of these is none of them
pub below_none : (id : MetricId) (n : ℕ) (metrics : List Shelved) → id.0 ≡ n → Above n (map (λ (m : Shelved). m.id.0) metrics) → metric_of id metrics ≡ None
below_none id n [] is above = refl
below_none id n (m ∷ metrics) is above =
    ap (λ b. cond b (Some m) (metric_of id metrics)) (ne_eqb m.id.0 id.0 (λ same. let lt = above.0 in absurd (omega (arith, same, is, lt)))) ∙ below_none id n metrics is above.1

-- each of these metrics is found among all
abbrev pub AllFound : List Shelved → List Shelved → Type 0
AllFound whole [] = Unit {0}
AllFound whole (m ∷ metrics) = (metric_of m.id whole ≡ Some m) × AllFound whole metrics

-- ---- how many posts wait

pub flipped : (a b : ℕ) (c : Bool) → eqb a b ≡ c → eqb b a ≡ c
flipped a b true is = eq-eqb b a (sym (eqb-true a b is))
flipped a b false is = ne_eqb b a (λ same. eqb-false a b is (sym same))

abbrev one_if : Bool → ℕ
one_if true = 1
one_if false = 0

counted : (c : Bool) (x : Mark) (xs : List Mark) → length (cond c (x ∷ xs) xs) ≡ one_if c + length xs
counted true x xs = let one : one_if true ≡ 1 = refl in omega (arith, one)
counted false x xs = let zero : one_if false ≡ 0 = refl in omega (arith, zero)

module _ (m : Shelved) (metrics : List Shelved) (above : Above m.id.0 (map (λ (x : Shelved). x.id.0) metrics)) where
  abbrev waits : Mark → Bool
  waits = λ (mark : Mark). is_above_done (metric_of mark.metric (m ∷ metrics)) mark.number

  abbrev later : Mark → Bool
  later = λ (mark : Mark). is_above_done (metric_of mark.metric metrics) mark.number

  -- the posts that wait are those of the first metric and those of the others
  parts : (marks : List Mark) → length (filter waits marks) ≡ length (filter (is_above m.id m.done) marks) + length (filter later marks)
  parts [] = refl
  parts (mark ∷ marks) = by (eqb m.id.0 mark.metric.0) refl (parts marks)
    where
      by : (c : Bool) → eqb m.id.0 mark.metric.0 ≡ c → length (filter waits marks) ≡ length (filter (is_above m.id m.done) marks) + length (filter later marks)
          → length (filter waits (mark ∷ marks)) ≡ length (filter (is_above m.id m.done) (mark ∷ marks)) + length (filter later (mark ∷ marks))
      by true same rest =
          let first : waits mark ≡ ltb m.done mark.number = ap (λ b. is_above_done (cond b (Some m) (metric_of mark.metric metrics)) mark.number) same in
          let own : is_above m.id m.done mark ≡ ltb m.done mark.number = ap (λ b. b && ltb m.done mark.number) (flipped m.id.0 mark.metric.0 true same) in
          let none : later mark ≡ false = ap (λ o. is_above_done o mark.number) (below_none mark.metric m.id.0 metrics (sym (eqb-true m.id.0 mark.metric.0 same)) above) in
          let all : length (filter waits (mark ∷ marks)) ≡ one_if (waits mark) + length (filter waits marks) = counted (waits mark) mark (filter waits marks) in
          let mine : length (filter (is_above m.id m.done) (mark ∷ marks)) ≡ one_if (is_above m.id m.done mark) + length (filter (is_above m.id m.done) marks) =
          counted (is_above m.id m.done mark) mark (filter (is_above m.id m.done) marks) in
          let others : length (filter later (mark ∷ marks)) ≡ one_if (later mark) + length (filter later marks) = counted (later mark) mark (filter later marks) in
          let zero : one_if false ≡ 0 = refl in
          omega (arith, rest, all, mine, others, zero, ap one_if first, ap one_if own, ap one_if none)
      by false other rest =
          let first : waits mark ≡ later mark = ap (λ b. is_above_done (cond b (Some m) (metric_of mark.metric metrics)) mark.number) other in
          let own : is_above m.id m.done mark ≡ false = ap (λ b. b && ltb m.done mark.number) (flipped m.id.0 mark.metric.0 false other) in
          let all : length (filter waits (mark ∷ marks)) ≡ one_if (waits mark) + length (filter waits marks) = counted (waits mark) mark (filter waits marks) in
          let mine : length (filter (is_above m.id m.done) (mark ∷ marks)) ≡ one_if (is_above m.id m.done mark) + length (filter (is_above m.id m.done) marks) =
          counted (is_above m.id m.done mark) mark (filter (is_above m.id m.done) marks) in
          let others : length (filter later (mark ∷ marks)) ≡ one_if (later mark) + length (filter later marks) = counted (later mark) mark (filter later marks) in
          let zero : one_if false ≡ 0 = refl in
          omega (arith, rest, all, mine, others, zero, ap one_if first, ap one_if own)

none_wait : (marks : List Mark) → length (filter (λ (mark : Mark). is_above_done (metric_of mark.metric []) mark.number) marks) ≡ 0
none_wait [] = refl
none_wait (mark ∷ marks) = none_wait marks

module _ {D : Type 0} (b : Books D) where
  abbrev each : MetricId → ℕ
  each = λ (id : MetricId). length (numbers_waiting b id)

  summed : (metrics : List Shelved) → AllFound b.shelf.metrics metrics → Rises (map (λ (m : Shelved). m.id.0) metrics)
      → sum_by each (map (λ (m : Shelved). m.id) metrics) ≡ length (filter (λ (mark : Mark). is_above_done (metric_of mark.metric metrics) mark.number) b.incoming.marks)
  summed [] found rises = sym (none_wait b.incoming.marks)
  summed (m ∷ metrics) found rises =
      let own : each m.id ≡ length (filter (is_above m.id m.done) b.incoming.marks) =
      ap (λ o. length (numbers_over (option_map (λ (x : Shelved). x.done) o) m.id b.incoming.marks)) found.0 ∙ length-map (filter (is_above m.id m.done) b.incoming.marks) (λ (mark : Mark). mark.number) in
      let rest = summed metrics found.1 rises.1 in
      let both = parts m metrics rises.0 b.incoming.marks in
      let sum : sum_by each (map (λ (x : Shelved). x.id) (m ∷ metrics)) ≡ each m.id + sum_by each (map (λ (x : Shelved). x.id) metrics) = sum_by-cons each m.id (map (λ (x : Shelved). x.id) metrics) in
      omega (arith, own, rest, both, sum)

found_behind : (x : Shelved) (whole metrics : List Shelved) → Above x.id.0 (map (λ (m : Shelved). m.id.0) metrics) → ((m : Shelved) → metric_of m.id whole ≡ Some m → x.id.0 < m.id.0 → metric_of m.id (x ∷ whole) ≡ Some m)
found_behind x whole metrics above m is lt = ap (λ c. cond c (Some x) (metric_of m.id whole)) (ne_eqb x.id.0 m.id.0 (λ same. absurd (omega (arith, same, lt)))) ∙ is

found_more : (x : Shelved) (whole metrics : List Shelved) → Above x.id.0 (map (λ (m : Shelved). m.id.0) metrics) → AllFound whole metrics → AllFound (x ∷ whole) metrics
found_more x whole [] above found = tt
found_more x whole (m ∷ metrics) above found = (found_behind x whole (m ∷ metrics) above m found.0 above.0, found_more x whole metrics above.1 found.1)

pub all_found : (metrics : List Shelved) → Rises (map (λ (m : Shelved). m.id.0) metrics) → AllFound metrics metrics
all_found [] rises = tt
all_found (m ∷ metrics) rises =
    (ap (λ c. cond c (Some m) (metric_of m.id metrics)) (eq-eqb m.id.0 m.id.0 refl), found_more m metrics metrics rises.0 (all_found metrics rises.1))

-- ---- there are fewer posts than numbers

rise_length : (low : ℕ) (marks : List Mark) → RiseFrom low marks → low + length marks ≤ last_from low marks
rise_length low [] rise = omega arith
rise_length low (m ∷ marks) rise = let rest = rise_length m.number marks rise.1 in let lt = rise.0 in omega (arith, rest, lt)

filter_shorter : (p : Mark → Bool) (marks : List Mark) → length (filter p marks) ≤ length marks
filter_shorter p [] = omega arith
filter_shorter p (m ∷ marks) = by (p m) (filter_shorter p marks)
  where
    by : (c : Bool) → length (filter p marks) ≤ length marks → length (cond c (m ∷ filter p marks) (filter p marks)) ≤ length (m ∷ marks)
    by true le = omega (arith, le)
    by false le = omega (arith, le)

few_wait : {D : Type 0} (b : Books D) → RiseFrom 0 b.incoming.marks → last_number b.incoming.marks < b.incoming.next → b.incoming.next ≤ 2 ^ 63 → length (marks_waiting b) ≤ 2 ^ 63
few_wait b rise below most =
    let long = rise_length 0 b.incoming.marks rise in
    let fewer = filter_shorter (λ (mark : Mark). is_above_done (metric_of mark.metric b.shelf.metrics) mark.number) b.incoming.marks in
    omega (arith, long, fewer, below, most)

-- the numbers of all live metrics together
pub pending_all : {D : Type 0} (b : Books D) (ids : List MetricId) → ids ≡ map (λ (m : Shelved). m.id) b.shelf.metrics → IsStrictlyIncreasing (map (λ (m : Shelved). m.id.0) b.shelf.metrics)
    → RiseFrom 0 b.incoming.marks → last_number b.incoming.marks < b.incoming.next → b.incoming.next ≤ 2 ^ 63
    → min (sum_by (λ (id : MetricId). length (numbers_waiting b id)) ids) (2 ^ 64 - 1) ≡ length (marks_waiting b)
pending_all b ids is rising rise below most =
    let rises = Rises_from_rising (map (λ (m : Shelved). m.id.0) b.shelf.metrics) rising in
    let sum : sum_by (λ (id : MetricId). length (numbers_waiting b id)) ids ≡ length (marks_waiting b) =
    ap (sum_by (λ (id : MetricId). length (numbers_waiting b id))) is ∙ summed b b.shelf.metrics (all_found b.shelf.metrics rises) rises in
    let few = few_wait b rise below most in
    omega (arith, sum, few)
